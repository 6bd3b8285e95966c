-- What a message tells: its serial, region and text.
use Rattle.std.proofs.Common.{◌≡◌, ℕ, ◌-◌, ◌≤◌, true, List, ◌++◌, length, take, replicate, sym, refl, ap, ◌∙◌, arith, length-append, rules}
use lib.ListN.{length-replicate}
use Rattle.std.proofs.lemmas.List.{take_at, append_cancel_left, append_cancel_right}
use Rattle.std.proofs.lemmas.Bool.Decides.{nat_tests}
use Rattle.kinds.specs.Faults.{padded}
use Rattle.kinds.specs.Rules.{Model, Laws}
use Rattle.lines.specs.Message.{header, text_bytes, message, text_fits, MessageLaws}

-- Lists whose first parts are as long as each other are equal part by part.
split_front : (a b c d : List ℕ) → length a ≡ length c → a ++ b ≡ c ++ d → (a ≡ c) × (b ≡ d)
split_front a b c d l e =
    let f : a ≡ c = sym (take_at a b (length a) refl) ∙ ap (take (length a)) e ∙ take_at c d (length a) (sym l) in
    (f, append_cancel_left c b d (ap (λ (x : List ℕ). x ++ b) (sym f) ∙ e))

serial_tells : (a b w v m n : ℕ) → header a w m ≡ header b v n → (a ≡ b) × (m ≡ n)
serial_tells a b w v m n e = search rules

text_length : (t : List ℕ) → text_fits t ≡ true → length (text_bytes t) ≡ 30
text_length t h =
    let le : length t ≤ 30 = grind (arith, nat_tests) in
    simp (length-append, length-replicate) (omega arith)

text_tells : (t u : List ℕ) → length t ≡ length u → text_bytes t ≡ text_bytes u → t ≡ u
text_tells t u l e = (split_front t _ u _ l e).0

region_length : (w : ℕ) (b : List ℕ) → w ≤ 24 → length b ≡ w → length (padded w b) ≡ 24
region_length w b h e = simp (length-append, length-replicate) (omega arith)

module _ {P R : Type 0} (m : Model P R) (l : Laws m) where
  size : (serial : ℕ) (region : R) (text : List ℕ) → m.width ≤ 24 → text_fits text ≡ true
      → length (message m serial region text) ≡ 64
  unfolding message
  size serial region text w t =
      let r = region_length m.width (m.bytes region) w (l.bytes_length region w) in
      let u = text_length text t in
      length-append (header serial m.width (length text)) (padded m.width (m.bytes region) ++ text_bytes text)
      ∙ omega (arith, length-append (padded m.width (m.bytes region)) (text_bytes text))

  all_tell : (s₁ s₂ : ℕ) (r₁ r₂ : R) (t₁ t₂ : List ℕ) → m.width ≤ 24 → text_fits t₁ ≡ true → text_fits t₂ ≡ true
      → message m s₁ r₁ t₁ ≡ message m s₂ r₂ t₂ → (s₁ ≡ s₂) × ((r₁ ≡ r₂) × (t₁ ≡ t₂))
  unfolding message
  all_tell s₁ s₂ r₁ r₂ t₁ t₂ w f₁ f₂ e =
      let wide = m.width in
      let h = split_front (header s₁ wide (length t₁)) _ (header s₂ wide (length t₂)) _ refl e in
      let s = serial_tells s₁ s₂ wide wide (length t₁) (length t₂) h.0 in
      let lr₁ = region_length wide (m.bytes r₁) w (l.bytes_length r₁ w) in
      let lr₂ = region_length wide (m.bytes r₂) w (l.bytes_length r₂ w) in
      let q = split_front (padded wide (m.bytes r₁)) _ (padded wide (m.bytes r₂)) _ (lr₁ ∙ sym lr₂) h.1 in
      let rs = append_cancel_right (m.bytes r₁) (m.bytes r₂) (replicate (24 - wide) 0) q.0 in
      (s.0, (l.bytes_injective r₁ r₂ w rs, text_tells t₁ t₂ s.1 q.1))

  pub message_laws : MessageLaws m
  message_laws = record { size = size; tells = all_tell }
