-- An actor's open steps as sets: a mask for each kind and destination, and one mask for the steps with transaction byte 255.
-- Assumes nothing.
use Rattle.std.specs.Prelude.{ℕ, ◌+◌, ◌/◌, ◌%◌, ◌<◌, ◌≡◌, Bool, false, not, ◌&&◌, List, eqb, get_or, replicate, Option, Some, None}
use Rattle.laws.specs.Booleans.{pick}
use Rattle.laws.specs.Each.{rewrite_first}
use Rattle.laws.specs.Mask.{bit}
use Rattle.laws.specs.Sets.{set_below}
use Rattle.sheet.specs.Refusal.{accepted}
use Rattle.sheet.specs.Field.{count}
use Rattle.slots.specs.Destination.{destinations, place_of, is_party}
use Rattle.slots.specs.declared.Step.{Step}
use Rattle.output.specs.Forms.Emitted.{places}
use Rattle.readings.specs.declared.Context.{Context}
use Rattle.steps.specs.declared.View.{View}
use Rattle.steps.specs.declared.Guards.{Guards}
use Rattle.steps.specs.Decode.{no_transaction, decode}
use Rattle.queries.specs.declared.OpenSets.{OpenSets}
use Rattle.position.specs.declared.Position.{Position}
use Rattle.position.specs.Position.{slot_count}
use Rattle.position.specs.FirstShares.{first_shares_made}
use Rattle.position.specs.Owed.{any_owed}
use Rattle.position.specs.Conduct.{is_careful, can_pay}
use Rattle.position.specs.Forms.Guards.{guards}
use Rattle.position.specs.Forms.View.{view_below}
use Rattle.position.specs.StepRefusal.{step_refusal}
use Rattle.position.specs.Open.{kinds}

-- what four bytes decoded to is a step that is accepted
unfoldable pub is_open_read : List ℕ → List ℕ → Position → Option Step → Bool
is_open_read s u p (Some x) = eqb (step_refusal s u p x) accepted
is_open_read s u p None = false

-- four bytes are an open step
unfoldable pub is_open_step : List ℕ → List ℕ → Position → ℕ → ℕ → ℕ → ℕ → Bool
is_open_step s u p kind actor t d = is_open_read s u p (decode s u kind actor t d)

-- The sets `below` and the set `last` are an actor's open steps: the set at place `place_of k d` is that of kind k + 1 and destination d,
-- with bit t for transaction byte t; bit `place_of k d` of `last` stands for transaction byte 255.
pub record Opens (s u : List ℕ) (p : Position) (actor : ℕ) (below : List ℕ) (last : ℕ) : Type 0 where
  pub lower : (k d t : ℕ) → k < kinds → d < destinations → t < slot_count
      → bit (get_or below (place_of k d) 0) t ≡ is_open_step s u p (k + 1) actor t d
  pub top : (k d : ℕ) → k < kinds → d < destinations → bit last (place_of k d) ≡ is_open_step s u p (k + 1) actor no_transaction d

-- the transaction bytes below 32 with which a step of this kind and destination is open
unfoldable pub open_set : List ℕ → List ℕ → Position → ℕ → ℕ → ℕ → ℕ
open_set s u p actor kind d = set_below slot_count (λ t. is_open_step s u p kind actor t d)

-- the sets by place
unfoldable pub below_sets : List ℕ → List ℕ → Position → ℕ → List ℕ
below_sets s u p actor = rewrite_first places (λ i x. open_set s u p actor (i / destinations + 1) (i % destinations)) (replicate places 0)

-- the places at which the step with transaction byte 255 is open
unfoldable pub last_set : List ℕ → List ℕ → Position → ℕ → ℕ
last_set s u p actor = set_below places (λ i. is_open_step s u p (i / destinations + 1) actor no_transaction (i % destinations))

-- both
unfoldable pub open_sets : List ℕ → List ℕ → Position → ℕ → OpenSets
open_sets s u p actor = record { below = below_sets s u p actor; last = last_set s u p actor }

-- a careful party that can send a transaction that pays it, and so "sends no contract one"
unfoldable pub is_paying : List ℕ → List ℕ → Position → ℕ → Bool
is_paying s u p actor = is_party s actor && (is_careful u && can_pay s u p actor)

-- what is the same for all steps of an actor
unfoldable pub context_of : List ℕ → List ℕ → Position → ℕ → Context
context_of s u p actor =
    record {
      view = view_below s (count s) p;
      guards = guards s u p;
      paying = is_paying s u p actor;
      owed = any_owed s u p;
      made = first_shares_made p actor;
    }

-- no transaction and no signature is tested for the actor: a party in phase 0, another while the pool is empty
unfoldable pub is_idle : List ℕ → View → Guards → ℕ → Bool
is_idle s v o actor = pick (is_party s actor) (not o.free && eqb o.phase 0) (eqb v.pool 0)
