-- The message that goes to the service: 64 bytes.
use Rattle.std.specs.Prelude.{◌≡◌, ℕ, ◌-◌, ◌/◌, ◌%◌, ◌≤◌, Bool, true, ◌&&◌, List, [], ◌∷◌, ◌++◌, length, replicate, nat_le}
use Rattle.kinds.specs.Bytes.{le16}
use Rattle.kinds.specs.Faults.{padded}
use Rattle.kinds.specs.Rules.{Model}

-- A 32-bit number in four bytes, the lowest first, before other bytes.
abbrev pub le32 : ℕ → List ℕ → List ℕ
le32 n rest = (n % 256) ∷ ((n / 256 % 256) ∷ ((n / 65536 % 256) ∷ ((n / 16777216) ∷ rest)))

-- The first ten bytes: the message's length, 64; its kind, 17; the serial; the region's width; and the text's length.
abbrev pub header : ℕ → ℕ → ℕ → List ℕ
header serial width size = le16 64 (le16 17 (le32 serial (width ∷ (size ∷ []))))

-- A text in 30 bytes, the rest zero.
abbrev pub text_bytes : List ℕ → List ℕ
text_bytes text = text ++ replicate (30 - length text) 0

-- The message of a query: the header, the region in 24 bytes, and the text in 30.
unfoldable pub message : {P R : Type 0} → Model P R → ℕ → R → List ℕ → List ℕ
message m serial region text =
    header serial m.width (length text) ++ (padded m.width (m.bytes region) ++ text_bytes text)

-- A text has 1 to 30 bytes.
abbrev pub text_fits : List ℕ → Bool
text_fits text = nat_le 1 (length text) && nat_le (length text) 30

-- In a kind whose regions fit, a message has 64 bytes, and messages of other serials, regions or texts are other messages.
pub record MessageLaws {P R : Type 0} (m : Model P R) : Type 0 where
  pub size : (serial : ℕ) (region : R) (text : List ℕ) → m.width ≤ 24 → text_fits text ≡ true
      → length (message m serial region text) ≡ 64
  pub tells : (s₁ s₂ : ℕ) (r₁ r₂ : R) (t₁ t₂ : List ℕ) → m.width ≤ 24 → text_fits t₁ ≡ true → text_fits t₂ ≡ true
      → message m s₁ r₁ t₁ ≡ message m s₂ r₂ t₂ → (s₁ ≡ s₂) × ((r₁ ≡ r₂) × (t₁ ≡ t₂))
