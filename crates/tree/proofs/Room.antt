-- A tree has fewer nodes than there are slots.
use Rattle.std.proofs.Common.{◌≡◌, ℕ, zero, suc, ◌+◌, ◌<◌, ◌≤◌, List, length, refl, arith}
use native.Mathlib.Decide.{ℕ_discrete, dec_lt}
use Rattle.std.proofs.lemmas.Bool.Decides.{nat_tests}
use Rattle.tree.specs.declared.node.Node.{Node}
use Rattle.tree.specs.Tree.{Tree, leaf, node, size, times, stored, Holds}
use Rattle.tree.specs.Contracted.{one}
use Rattle.tree.proofs.Held.{at_some}

abbrev sum_to : ℕ → (ℕ → ℕ) → ℕ
sum_to zero f = 0
sum_to (suc n) f = f n + sum_to n f

sum_zero : (n : ℕ) (f : ℕ → ℕ) → ((j : ℕ) → j < n → f j ≡ 0) → sum_to n f ≡ 0
sum_zero zero f h = refl
sum_zero (suc n) f h = let a = h n (omega arith) in let b = sum_zero n f (λ j lt. h j (omega arith)) in omega arith

sum_one : (n s : ℕ) → s < n → sum_to n (λ j. one j s) ≡ 1
sum_one zero s lt = absurd (omega arith)
sum_one (suc n) s lt = go (ℕ_discrete n s) (sum_one n s)
  where
    go : Dec (n ≡ s) → (s < n → sum_to n (λ j. one j s) ≡ 1) → one n s + sum_to n (λ j. one j s) ≡ 1
    go (yes e) ih =
        let a : one n s ≡ 1 = grind (arith, nat_tests) in
        let b = sum_zero n (λ j. one j s) (λ j h. grind (arith, nat_tests)) in
        omega arith
    go (no e) ih = let a : one n s ≡ 0 = grind (arith, nat_tests) in let b = ih (omega arith) in omega arith

sum_add : (n : ℕ) (f g : ℕ → ℕ) → sum_to n (λ j. f j + g j) ≡ sum_to n f + sum_to n g
sum_add zero f g = refl
sum_add (suc n) f g = let a = sum_add n f g in omega arith

sum_le : (n : ℕ) (f : ℕ → ℕ) → ((j : ℕ) → f j ≤ 1) → f 0 ≡ 0 → sum_to (suc n) f ≤ n
sum_le zero f h z = omega arith
sum_le (suc n) f h z = let a = sum_le n f h z in omega (arith, h (suc n))

sum_cap : (n : ℕ) (f : ℕ → ℕ) → ((j : ℕ) → f j ≤ 1) → f 0 ≡ 0 → ((j : ℕ) → 4096 ≤ j → f j ≡ 0) → sum_to n f ≤ 4095
sum_cap zero f h z far = omega arith
sum_cap (suc n) f h z far =
    elim (dec_lt n 4096) [
      | yes lt ↦ omega (arith, sum_le n f h z)
      | no ge ↦ omega
          (arith, sum_cap n f h z far, far n (omega arith))
    ]

module _ {P R : Type 0} (ns : List (Node P R)) where
  sum_times : (t : Tree P R) → Holds ns t → sum_to (length ns) (λ j. times j t) ≡ size t
  sum_times leaf h = sum_zero (length ns) (λ j. 0) (λ j lt. refl)
  sum_times (node l s p v r) h =
      let a = sum_times l h.1 in
      let b = sum_times r h.2 in
      let c = sum_one (length ns) s (at_some ns s (stored l p v r) h.0).1 in
      let d = sum_add (length ns) (λ j. times j l + one j s) (λ j. times j r) in
      let e = sum_add (length ns) (λ j. times j l) (λ j. one j s) in
      omega arith

  no_zero : (t : Tree P R) → Holds ns t → times 0 t ≡ 0
  no_zero leaf h = refl
  no_zero (node l s p v r) h =
      let a = no_zero l h.1 in
      let b = no_zero r h.2 in
      let c = (at_some ns s (stored l p v r) h.0).0 in
      let d : one 0 s ≡ 0 = grind (arith, nat_tests) in
      omega arith

  -- A tree of slots that stand once, all below 4096.
  pub few_nodes : (t : Tree P R) → Holds ns t → ((j : ℕ) → times j t ≤ 1) → ((j : ℕ) → 4096 ≤ j → times j t ≡ 0)
      → size t ≤ 4095
  few_nodes t h apart far =
      let a = sum_cap (length ns) (λ j. times j t) apart (no_zero t h) far in omega (arith, sum_times t h)

  -- There is room for one more slot that is not in the tree.
  pub room_for : (t : Tree P R) (s : ℕ) → Holds ns t → ((j : ℕ) → times j t + one j s ≤ 1) → 0 < s → s < length ns
      → ((j : ℕ) → 4096 ≤ j → times j t ≡ 0) → s < 4096 → 1 + size t ≤ 4095
  room_for t s h apart pos lt far low =
      let z : times 0 t + one 0 s ≡ 0 =
      (let a = no_zero t h in let b : one 0 s ≡ 0 = grind (arith, nat_tests) in omega arith) in
      let a = sum_cap (length ns) (λ j. times j t + one j s) apart z
      (λ j le. let b : one j s ≡ 0 = grind (arith, nat_tests) in omega (arith, far j le)) in
      let c = sum_add (length ns) (λ j. times j t) (λ j. one j s) in
      let d = sum_times t h in
      let f = sum_one (length ns) s lt in
      omega arith
