-- What right fields tell of a step of each kind, for the methods.
-- Assumes nothing.
use Rattle.laws.proofs.Prelude.{ℕ, ◌≤◌, ◌<◌, ◌≡◌, true, not, ◌&&◌, List, eqb, ltb, eqb-true, ltb-true, not-true, arith, either, and_parts, or_parts, or_right}
use Rattle.sheet.specs.Field.{count}
use Rattle.sheet.specs.Setup.{conduct}
use Rattle.sheet.specs.Checked.{Fit}
use Rattle.slots.specs.declared.Destination.{Destination}
use Rattle.slots.specs.declared.Step.{Step}
use Rattle.slots.specs.declared.Step.TheVariants.{Share}
use Rattle.slots.specs.Destination.{destination_number, is_party}
use Rattle.steps.specs.Names.{timeout}
use Rattle.steps.specs.Decode.{no_transaction, shares_to, first_share_fields, fields_right}
use Rattle.position.proofs.Fits.{named}
use Rattle.position.specs.Forms.FirstShares.{shareable}
use Rattle.position.specs.Conduct.{is_open}

module _ (s u : List ℕ) (party t : ℕ) (to : Destination) (x : Step) where
  pub share_fields : x ≡ Share party t to → Fit s u → fields_right s u x ≡ true → shareable s t ≡ true
  unfolding fields_right shareable first_share_fields is_open
  share_fields e fit h =
      let w = and_parts (is_party s party) _ (rw e at h) in
      either (or_parts (ltb t (count s) && shares_to s t (destination_number to)) _ w.1)
      (λ y. rw (and_parts (ltb t (count s)) _ y).0)
      (λ y.
      let z = and_parts (eqb t no_transaction) _ y in
      let n : count s ≡ 15 = named fit.setup (not-true (eqb (conduct u) 0) (and_parts (not (eqb (conduct u) 0)) _ z.1).0) in
      or_right (ltb t (count s)) (eqb t no_transaction && ltb timeout (count s)) (rw (z.0, n)))

-- a share of one transaction, and of the first shares
module _ (s : List ℕ) (t : ℕ) (few : count s ≤ 32) (h : shareable s t ≡ true) where
  pub share_one_fits : (t ≡ 255 → ⊥) → t < count s
  unfolding shareable
  share_one_fits other =
      either (or_parts (ltb t (count s)) _ h)
      (λ y. ltb-true t (count s) y)
      (λ y. absurd (other (eqb-true t no_transaction (and_parts (eqb t no_transaction) _ y).0)))

  pub share_first_fits : t ≡ 255 → 6 < count s
  unfolding shareable
  share_first_fits e =
      either (or_parts (ltb t (count s)) _ h)
      (λ y. let l = ltb-true t (count s) y in omega (arith, l, e, few))
      (λ y. ltb-true timeout (count s) (and_parts (eqb t no_transaction) _ y).1)
