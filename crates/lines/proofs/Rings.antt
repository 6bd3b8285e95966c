-- A ring of slots: what is read first, and what a write behind the last message adds.
use Rattle.std.proofs.Common.{◌≡◌, ℕ, zero, suc, ◌+◌, ◌-◌, ◌*◌, ◌/◌, ◌%◌, ◌<◌, ◌≤◌, List, [], ◌∷◌, ◌++◌, length, take, drop, get_or, sym, refl, ap, ◌∙◌, subst, inl, inr, arith, mod-eq_of_lt, length-drop, add-mul}
use Rattle.std.proofs.Math.ListN.{set, length-set}
use Rattle.std.proofs.Math.Nat.{mod-add-mod}
use native.Mathlib.Nat.{mod-eq-sub-mod}
use Rattle.std.proofs.lemmas.Nat.{mod_below}
use Rattle.std.proofs.lemmas.List.{get_or-set_same, get_or-set_other}
use Rattle.std.proofs.lemmas.Bool.{cases_lt, cases_eq}
use Rattle.std.proofs.lemmas.List.{length-take, length-take-le, get_or-take}
use Rattle.std.specs.Simd.{first_chunks}
use Rattle.lines.specs.Ring.{next_slot, ring}

pub length_ring : (slots : List (List ℕ)) (i k : ℕ) → length (ring slots i k) ≡ k
length_ring slots i zero = refl
length_ring slots i (suc k) = ap suc (length_ring slots (next_slot (length slots) i) k)

pub ring_front : (slots : List (List ℕ)) (i k : ℕ) → 0 < k
    → ring slots i k ≡ get_or slots i [] ∷ ring slots (next_slot (length slots) i) (k - 1)
ring_front slots i zero h = absurd (omega arith)
ring_front slots i (suc k) h =
    let e : k ≡ suc k - 1 = omega arith in
    ap (λ (x : ℕ). get_or slots i [] ∷ ring slots (next_slot (length slots) i) x) e

after_elsewhere : (n i k : ℕ) → i < n → suc k < n → (i + suc k) % n ≡ i → ⊥
after_elsewhere n i k h hk e =
    let either = cases_lt (i + suc k) n in
    elim either [
      | inl l ↦ (let f : (i + suc k) % n ≡ i + suc k = mod-eq_of_lt l in omega arith)
      | inr l ↦
          (let b : i + suc k - n < n = omega arith in
          let f : (i + suc k) % n ≡ i + suc k - n = mod-eq-sub-mod l ∙ mod-eq_of_lt b in omega arith)
    ]

push_at : (slots : List (List ℕ)) (m : List ℕ) (i k p : ℕ) → i < length slots → k < length slots → p ≡ (i + k) % length slots
    → ring (set slots p m) i (suc k) ≡ ring slots i k ++ (m ∷ [])
push_at slots m i zero p hi hk hp =
    let z : i + 0 ≡ i = omega arith in
    let q : p ≡ i = hp ∙ ap (λ (x : ℕ). x % length slots) z ∙ mod-eq_of_lt hi in
    rw q (ap (λ (x : List ℕ). x ∷ []) (get_or-set_same slots i m [] hi))
push_at slots m i (suc k) p hi hk hp =
    let n = length slots in
    let j = next_slot n i in
    let hk0 : k < n = omega arith in
    let s : i + suc k ≡ i + 1 + k = omega arith in
    let hj : j < n = mod_below (i + 1) n (omega arith) in
    let e : p ≡ (j + k) % n = hp ∙ ap (λ (x : ℕ). x % n) s ∙ sym (mod-add-mod (i + 1) n k) in
    let head = get_or-set_other slots p i m [] (λ q. after_elsewhere n i k hi hk (sym hp ∙ sym q)) in
    let rest = push_at slots m j k p hj hk0 e in
    let same = ap (λ (x : ℕ). ring (set slots p m) (next_slot x i) (suc k)) (length-set slots p m) in
    cc

pub ring_push : (slots : List (List ℕ)) (m : List ℕ) (i k : ℕ) → i < length slots → k < length slots
    → ring (set slots ((i + k) % length slots) m) i (k + 1) ≡ ring slots i k ++ (m ∷ [])
ring_push slots m i k hi hk =
    let s : k + 1 ≡ suc k = omega arith in
    ap (ring (set slots ((i + k) % length slots) m) i) s ∙ push_at slots m i k ((i + k) % length slots) hi hk refl

-- Chunks of n bytes have n bytes each.
pub whole_chunks : (n k : ℕ) (bytes : List ℕ) → k * n ≤ length bytes → (i : ℕ) → i < k
    → length (get_or (first_chunks n k bytes) i []) ≡ n
whole_chunks n zero bytes h i b = absurd (omega arith)
whole_chunks n (suc k) bytes h zero b = length-take-le n bytes (omega (arith, add-mul k 1 n))
whole_chunks n (suc k) bytes h (suc i) b =
    let d = length-drop n bytes in
    whole_chunks n k (drop n bytes) (omega (arith, add-mul k 1 n)) i (omega arith)

pub whole_front : (m : ℕ) (bytes : List ℕ) (slots : List (List ℕ)) → slots ≡ first_chunks 64 (length bytes / 64) bytes
    → length slots ≡ length bytes / 64
    → (i : ℕ) → i < length (take m slots) → length (get_or (take m slots) i []) ≡ 64
whole_front m bytes slots e l i h =
    let t = length-take m slots in
    let c : length (get_or slots i []) ≡ 64 =
    rw e (whole_chunks 64 (length bytes / 64) bytes (omega arith) i (omega (arith, t, l))) in
    rw (get_or-take m slots i [] (omega (arith, t))) c

-- Slots that have n bytes each still do with another message of n bytes.
pub whole_set : (n : ℕ) (slots : List (List ℕ)) (p : ℕ) (m : List ℕ) → length m ≡ n
    → ((i : ℕ) → i < length slots → length (get_or slots i []) ≡ n)
    → (i : ℕ) → i < length (set slots p m) → length (get_or (set slots p m) i []) ≡ n
whole_set n slots p m l w i h =
    let hi : i < length slots = rw length-set at h in
    elim (cases_eq i p) [
      | inl e ↦ rw e (ap length (get_or-set_same slots p m [] (subst (λ (j : ℕ). j < length slots) e hi)) ∙ l)
      | inr ne ↦ ap length (get_or-set_other slots p i m [] ne) ∙ w i hi
    ]
