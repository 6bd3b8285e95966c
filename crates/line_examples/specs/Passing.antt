-- A message sent into a line, and the oldest taken out.
use Rattle.std.specs.Prelude.{ℕ, cond, List, [], ◌∷◌, ◌++◌, Ok, Err, Result, ◌==◌}
use Rattle.lines.specs.declared.fault.LineFault.{LineFault}
use Rattle.lines.specs.declared.fault.LineFault.TheVariants.{Full}
use Rattle.lines.specs.Meaning.{spare_of, newer, oldest}

abbrev pub passed : ℕ → List (List ℕ) → List ℕ → Result (List ℕ) LineFault
passed capacity waiting message =
    cond (spare_of capacity waiting == 0) (Err Full) (Ok (oldest (waiting ++ (message ∷ [])) message))

abbrev pub after_pass : ℕ → List (List ℕ) → List ℕ → List (List ℕ)
after_pass capacity waiting message =
    cond (spare_of capacity waiting == 0) waiting (newer (waiting ++ (message ∷ [])))
