-- What a refusal is, and the words that it is printed with.
use Rattle.std.specs.Prelude.{ℕ, List, ◌++◌, codes, decimal}
use Rattle.refusals.specs.declared.Part.{Part}
use Rattle.refusals.specs.declared.Part.TheVariants as part
use Rattle.refusals.specs.declared.Refusal.{Refusal}

-- The word by which a part is named in print.
abbrev pub word : Part → List ℕ
word part.Register = codes "register"
word part.Kind = codes "kind"
word part.Query = codes "query"
word part.Open = codes "open"
word part.Line = codes "line"
word part.Feed = codes "feed"

-- The refusal with the number n, given by the part p.
abbrev pub refusal : ℕ → Part → Refusal
refusal n p = record { number = n; part = p }

-- A refusal in print: its number in decimal, a space, and the word of its part.
abbrev pub refusal_text : Refusal → List ℕ
refusal_text r = decimal r.number ++ (codes " " ++ word r.part)
