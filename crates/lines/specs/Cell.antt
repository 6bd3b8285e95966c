-- What the radio cell means.
use Rattle.std.specs.Prelude.{ℕ, List, option_to_list}
use Rattle.lines.specs.declared.radio_cell.RadioCell.{RadioCell}

abbrev pub cell_waiting : RadioCell → List (List ℕ)
cell_waiting c = option_to_list c.message
