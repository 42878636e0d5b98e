-- Nobody confirms what nobody else can sign: what a list of steps without a party can confirm.
-- Assumes nothing.
use Rattle.std.specs.Prelude.{ℕ, ◌<◌, ◌≡◌, Bool, true, false, ◌⊎◌, List}
use Rattle.laws.specs.Mask.{bit}
use Rattle.sheet.specs.Refusal.{accepted}
use Rattle.sheet.specs.Field.{count}
use Rattle.sheet.specs.Check.{sheet_refusal}
use Rattle.sheet.specs.Setup.{setup_refusal}
use Rattle.slots.specs.Destination.{is_party}
use Rattle.position.specs.declared.Position.{Position}
use Rattle.position.specs.Position.{is_confirmed, confirmed_to}
use Rattle.position.specs.Play.{FourBytes, play}
use Rattle.claim_ledger.specs.Claim.{position_of}
use Rattle.attainable.specs.Attainable.{attainable, attainable_elsewhere, Least}
use Rattle.claim_attainable.specs.Words.{without, sends_only}

-- every transaction confirmed in q was confirmed in p or is attainable there; for another payee than X, with a destination other than X.
-- What is attainable in q was so in p
pub record Foreseen (s u : List ℕ) (p q : Position) (x : ℕ) (also : ℕ → Bool) : Type 0 where
  pub confirmed : (t : ℕ) → t < count s → is_confirmed q t ≡ true → (is_confirmed p t ≡ true) ⊎ (bit (attainable s u p x also) t ≡ true)
  pub elsewhere : (t : ℕ) → t < count s → is_confirmed q t ≡ true → (confirmed_to q t ≡ x → ⊥)
      → (is_confirmed p t ≡ true) ⊎ (bit (attainable_elsewhere s u p x also) t ≡ true)
  pub fewer : (t : ℕ) → t < count s → bit (attainable s u q x also) t ≡ true → bit (attainable s u p x also) t ≡ true

-- what is claimed of a list of steps, a party and any further list, refused steps passed over
pub record Attained (s u : List ℕ) (now : List FourBytes) (x : ℕ) : Type 0 where
  pub least : (also : ℕ → Bool) → Least s u (position_of s u now) x also
  -- without X, nothing but what can come without X
  pub nobody : (next : List FourBytes) → without x next ≡ true → Foreseen s u (position_of s u now) (play s u next (position_of s u now)) x (λ t. false)
  -- where X sends some transactions and takes no other step
  pub sending : (also : ℕ → Bool) (next : List FourBytes) → sends_only x also next ≡ true
      → Foreseen s u (position_of s u now) (play s u next (position_of s u now)) x also

-- for every sheet and setup whose checks give 0, every list of steps and every party of the sheet
abbrev pub Attainability : Type 0
Attainability =
    (s u : List ℕ) → sheet_refusal s ≡ accepted → setup_refusal s u ≡ accepted → (now : List FourBytes) (x : ℕ) → is_party s x ≡ true → Attained s u now x
