-- The tests of kinds 1 and 2, as the code finds them, are those of the rules.
-- Assumes nothing.
use Rattle.laws.proofs.Prelude.{ℕ, zero, suc, ◌≡◌, sym, ◌∙◌, Bool, true, false, not, ◌&&◌, ◌||◌, and-false, List, eqb, ltb, eqb-true, ltb-true, ne_eqb, arith, and_parts}
use Rattle.laws.proofs.Prelude.{or_right, first_failing, bit}
use Rattle.sheet.specs.Refusal.{accepted, step_conduct}
use Rattle.slots.specs.Destination.{alice, bob}
use Rattle.steps.specs.Names.{lock_a, lock_b}
use Rattle.steps.specs.Decode.{no_transaction}
use Rattle.steps.specs.Tests.{conduct_rule, give_met_rule}
use Rattle.steps.specs.Forms.Sharing.{share_met_in}
use Rattle.position.specs.declared.Position.{Position}
use Rattle.position.specs.Position.{slot, block_of, is_confirmed, keys, holds, marked}
use Rattle.position.specs.FirstShares.{first_shares_made}
use Rattle.position.specs.Forms.FirstShares.{is_early}
use Rattle.position.specs.Tests.{share_met, share_tests, give_met, give_tests}
use Rattle.position.specs.Conduct.{is_open, phase, may_share, may_give}

-- of one transaction
pub one_met : (s : List ℕ) (p : Position) (party t destination : ℕ) → (t ≡ no_transaction → ⊥)
    → share_met_in s (keys p party) (slot p t) party t destination ≡ share_met s p party t destination
unfolding share_met share_met_in marked
one_met s p party t destination n = rw (ne_eqb t no_transaction n)

-- where allowed and met are what it found
module _ (s u : List ℕ) (p : Position) (allowed met : Bool) (party t destination r : ℕ) (h : r ≡ first_failing (conduct_rule allowed met)) where
  pub share_answer : allowed ≡ (is_open u || may_share s u p party t) → met ≡ share_met s p party t destination
      → r ≡ first_failing (share_tests (is_open u || may_share s u p party t) s p party t destination)
  unfolding share_tests
  share_answer f g = h ∙ rw (f, g)

  pub give_answer : allowed ≡ (is_open u || may_give s u p party t) → met ≡ give_met_rule (bit (keys p party) t) (bit (keys p destination) t)
      → r ≡ first_failing (give_tests (is_open u || may_give s u p party t) p party t destination)
  unfolding give_tests give_met holds
  give_answer f g = h ∙ rw (f, g)

-- ---- the first shares: one of both is missing; phase 0 by the locks alone; and the returns of their test
one_missing : (p : Position) (party : ℕ) → ltb party 2 ≡ true → first_shares_made p party ≡ false → (first_shares_made p alice && first_shares_made p bob) ≡ false
one_missing p zero l m = rw m
one_missing p (suc zero) l m = rw (m, and-false (first_shares_made p alice))
one_missing p (suc (suc k)) l m = absurd (omega (arith, ltb-true (suc (suc k)) 2 l))

early_phase : (p : Position) (party : ℕ) → is_early party (slot p lock_a) (slot p lock_b) ≡ true → first_shares_made p party ≡ false → phase p ≡ 0
unfolding is_early phase is_confirmed block_of
early_phase p party h m =
    let x = and_parts (ltb party 2) (eqb (slot p lock_a).height 0 && eqb (slot p lock_b).height 0) h in
    let y = and_parts (eqb (slot p lock_a).height 0) (eqb (slot p lock_b).height 0) x.1 in
    rw (eqb-true (slot p lock_a).height 0 y.0, eqb-true (slot p lock_b).height 0 y.1, one_missing p party x.0 m)

module _ (s u : List ℕ) (p : Position) (party : ℕ) (made : Bool) (is : made ≡ first_shares_made p party) where
  abbrev FirstAnswer : ℕ → Type 0
  FirstAnswer r = r ≡ first_failing (conduct_rule (is_open u || may_share s u p party no_transaction) (not (first_shares_made p party)))

  pub first_made : made ≡ true → FirstAnswer step_conduct
  unfolding first_failing conduct_rule
  first_made h = rw (sym is ∙ h, and-false (is_open u || may_share s u p party no_transaction))

  early_shares : made ≡ false → (e : Bool) → e ≡ is_early party (slot p lock_a) (slot p lock_b) → e ≡ true → may_share s u p party no_transaction ≡ true
  unfolding may_share
  early_shares h e i j = rw (early_phase p party (sym i ∙ j) (sym is ∙ h))

  pub first_early : made ≡ false → (e : Bool) → e ≡ is_early party (slot p lock_a) (slot p lock_b) → e ≡ true → FirstAnswer accepted
  unfolding first_failing conduct_rule
  first_early h e i j = rw (sym is ∙ h, or_right (is_open u) (may_share s u p party no_transaction) (early_shares h e i j))

  pub first_else : made ≡ false → (a : Bool) (r : ℕ) → a ≡ (is_open u || may_share s u p party no_transaction) → r ≡ first_failing (conduct_rule a true) → FirstAnswer r
  first_else h a r i j = j ∙ rw (i, sym is ∙ h)
