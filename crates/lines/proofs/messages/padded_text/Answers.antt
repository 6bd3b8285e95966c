use Rattle.std.proofs.Common.{ℕ, List, ◌++◌, length, drop, replicate, ap, ◌∙◌}
use Rattle.std.proofs.lemmas.List.{drop-replicate}
use Rattle.lines.proofs.messages.padded_text.Goals as goal

pub returns : goal.returns
returns c =
    let text = c.args.text.now in
    ap (λ (l : List ℕ). l ++ drop (length text) (replicate 30 0)) c.copy_from_slice.ensures.after
    ∙ ap (λ (l : List ℕ). text ++ l) (drop-replicate (length text) 30 0)
