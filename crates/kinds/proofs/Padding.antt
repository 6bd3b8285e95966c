-- A region by water, as a message holds it, from the padded bytes of the region below.
use Rattle.std.proofs.Common.{◌≡◌, ℕ, ◌+◌, ◌-◌, ◌≤◌, min, List, ◌++◌, length, take, replicate, Ok, Result, sym, ap, ◌∙◌, arith}
use lib.Seq.{take-append-add}
use Rattle.std.proofs.lemmas.List.{take-replicate}
use Rattle.std.proofs.lemmas.Bool.{le-leb}
use Rattle.kinds.specs.declared.fault.KindFault.{KindFault}
use Rattle.kinds.specs.declared.water.WaterRegion.{WaterRegion}
use Rattle.kinds.specs.Bytes.{le16}
use Rattle.kinds.specs.Span.{span_bytes}
use Rattle.kinds.specs.Rules.{Model}
use Rattle.kinds.specs.Water.{by_water}
use Rattle.kinds.specs.Faults.{padded, region_bytes}

region_bytes_in : {P R : Type 0} (m : Model P R) (region : R) → m.width ≤ 24
    → region_bytes m region ≡ Ok (padded m.width (m.bytes region))
region_bytes_in m region h = simp (le-leb m.width 24 h)

-- The first twenty bytes of a region that has at most twenty.
twenty : (w : ℕ) (bytes : List ℕ) → w ≤ 20 → length bytes ≡ w → take 20 (padded w bytes) ≡ bytes ++ replicate (20 - w) 0
twenty w bytes h e =
    let n : 20 ≡ length bytes + (20 - w) = omega arith in
    let l : 20 - w ≤ 24 - w = omega arith in
    ap (λ (k : ℕ). take k (padded w bytes)) n ∙ take-append-add bytes (replicate (24 - w) 0) (20 - w)
    ∙ ap (λ (t : List ℕ). bytes ++ t) (take-replicate (20 - w) (24 - w) 0 l)

module _ {P R : Type 0} (m : Model P R) (region : WaterRegion R) (narrow : m.width ≤ 20)
    (fills : length (m.bytes region.below) ≡ m.width) where
  pub water_padded : (below r : List ℕ) → ◌≡◌ {A = Result (List ℕ) KindFault} (Ok below) (region_bytes m region.below)
      → r ≡ le16 region.water.low (le16 region.water.high (take 20 below))
      → ◌≡◌ {A = Result (List ℕ) KindFault} (Ok r) (region_bytes (by_water m) region)
  water_padded below r o f =
      let w = m.width in
      let bytes = m.bytes region.below in
      let l : w ≤ 24 = omega arith in
      let k : min 255 (4 + w) ≤ 24 = omega arith in
      let q : 24 - min 255 (4 + w) ≡ 20 - w = omega arith in
      let u : ◌≡◌ {A = Result (List ℕ) KindFault} (Ok below) (Ok (padded w bytes)) = o ∙ region_bytes_in m region.below l in
      let b : below ≡ padded w bytes = cc in
      let v : r ≡ span_bytes region.water (bytes ++ replicate (20 - w) 0) =
      f ∙ ap (λ (t : List ℕ). span_bytes region.water (take 20 t)) b
      ∙ ap (span_bytes region.water) (twenty w bytes narrow fills) in
      ap Ok v
      ∙ sym (region_bytes_in (by_water m) region k
      ∙ ap (λ (n : ℕ). Ok (span_bytes region.water (bytes ++ replicate n 0))) q)
