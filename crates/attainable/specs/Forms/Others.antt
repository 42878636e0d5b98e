-- What is read once of a position, for a party X.
-- Assumes nothing.
use Rattle.std.specs.Prelude.{ℕ, ◌-◌, ◌<◌, ◌≡◌, Bool, true, false, not, ◌&&◌, ◌||◌, List, eqb, ltb}
use Rattle.std.specs.Int.Bits.{bit_and, bit_or}
use Rattle.laws.specs.Booleans.{pick}
use Rattle.laws.specs.Below.{any_below}
use Rattle.laws.specs.Sets.{set_below}
use Rattle.sheet.specs.Field.{count}
use Rattle.slots.specs.declared.Slot.{Slot}
use Rattle.slots.specs.Destination.{alice, bob, carol, contract, destinations, is_payee, is_contract}
use Rattle.slots.specs.Slot.{standing, entry_to, shared_any}
use Rattle.slots.specs.Signatures.{shared_secrets, signed}
use Rattle.steps.specs.declared.Guards.{Guards}
use Rattle.steps.specs.Names.{secret_bob}
use Rattle.steps.specs.Decode.{sends_to, shares_to}
use Rattle.position.specs.declared.Position.{Position}
use Rattle.position.specs.Position.{slot, is_confirmed, shared, holds}
use Rattle.position.specs.Conduct.{success_unshared}
use Rattle.soonest.specs.Forms.Table.{Filled}
use Rattle.attainable.specs.declared.Others.{Others}
use Rattle.attainable.specs.Attainable.{gone, secrets_of, others_keys, never_sent, waits_for}

-- a number that is no destination's
abbrev pub nowhere : ℕ
nowhere = 255

-- t waits for a destination other than `off`
unfoldable pub waits_apart : Position → ℕ → ℕ → Bool
waits_apart p off t = any_below destinations (λ d. not (eqb d off) && waits_for p t d)

-- X may send t for a destination other than `off`
unfoldable pub sends_apart : List ℕ → ℕ → ℕ → ℕ → Bool
sends_apart s x off t = any_below destinations (λ d. not (eqb d off) && sends_to s x t d)

-- nothing of a lack is outside the secrets shown
unfoldable pub meets : ℕ → ℕ → Bool
meets secrets lack = eqb (bit_and lack (4294967295 - secrets)) 0

-- v is what is lacking of t for a destination beside `have`: with secrets that meet it, and with no others, t is signed for it, unless it is barred
pub record Lacks (s : List ℕ) (barred : Bool) (x have d t v : ℕ) : Type 0 where
  pub met : (secrets : ℕ) → secrets < 256 → meets secrets v ≡ (not barred && (shares_to s t d && (not (eqb d x) && signed s (bit_or have secrets) t)))

-- what the others have for t and a destination, but for the secrets of a set
unfoldable pub others_for : List ℕ → Position → ℕ → ℕ → ℕ → ℕ
others_for s p x d t = bit_or (bit_or (others_keys s p x) (shared_secrets s (λ k. shared_any (slot p k)))) (shared p t d)

-- what they lack of t for it
abbrev pub OthersLack : List ℕ → List ℕ → Position → ℕ → ℕ → ℕ → ℕ → Type 0
OthersLack s u p x d t v = Lacks s (never_sent s u p x t) x (others_for s p x d t) d t v

-- the record holds what its fields say
pub record Reads (s u : List ℕ) (p : Position) (x : ℕ) (o : Others) : Type 0 where
  pub confirmed : o.confirmed ≡ set_below (count s) (is_confirmed p)
  pub gone : o.gone ≡ set_below (count s) (gone s p)
  pub secrets : o.secrets ≡ shared_secrets s (λ k. shared_any (slot p k))
  pub waits : o.waits ≡ set_below (count s) (waits_apart p nowhere)
  pub waits_elsewhere : o.waits_elsewhere ≡ set_below (count s) (waits_apart p x)
  pub sends : o.sends ≡ set_below (count s) (sends_apart s x nowhere)
  pub sends_elsewhere : o.sends_elsewhere ≡ set_below (count s) (sends_apart s x x)
  pub shows : Filled (λ t v. v ≡ secrets_of s t) (count s) o.shows
  pub alice : Filled (λ t v. OthersLack s u p x alice t v) (count s) o.alice
  pub bob : Filled (λ t v. OthersLack s u p x bob t v) (count s) o.bob
  pub contract : Filled (λ t v. OthersLack s u p x contract t v) (count s) o.contract
  pub carol : Filled (λ t v. OthersLack s u p x carol t v) (count s) o.carol

-- ---- as the code works it out

-- what a careful Alice asks before a send, in phase 3: there nothing else holds one back
unfoldable pub alice_guards : Position → Guards
alice_guards p =
    record {
      free = false;
      careful = true;
      phase = 3;
      late = false;
      refund = false;
      unshared = success_unshared p;
      knows = holds p alice secret_bob;
      bob_has = 0;
    }

-- an entry names a destination other than `off`
unfoldable pub names_apart : ℕ → ℕ → Bool
names_apart entry off = standing entry && (ltb (entry_to entry) destinations && not (eqb (entry_to entry) off))

-- the transaction whose slot is y waits for one
unfoldable pub waits_in : Slot → ℕ → Bool
waits_in y off = names_apart y.pool off || names_apart y.block off

-- X may send t for one
unfoldable pub sends_in : List ℕ → ℕ → ℕ → ℕ → Bool
sends_in s x off t = pick (is_contract s t) (not (eqb contract off)) (not (eqb x off) && (ltb x destinations && is_payee s t x))
