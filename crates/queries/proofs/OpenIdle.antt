-- An actor that no transaction and no signature is tested for: its sets below 255 are empty.
-- Assumes nothing.
use Rattle.laws.proofs.Prelude.{ℕ, ◌+◌, ◌/◌, ◌%◌, ◌<◌, ◌≡◌, refl, sym, ◌∙◌, Bool, true, false, not, ◌||◌, and-false, List, eqb, replicate, eqb-true, eqb-false, ne_eqb}
use Rattle.laws.proofs.Prelude.{not-true, arith, get_or-replicate, split, either, and_parts, or_parts, first_failing, set_start}
use Rattle.position.proofs.Rules.{count, signatures, stealth, Fit, alice, bob, miner, destinations, is_party, Guards, View, party_may, may_stand, gives_in}
use Rattle.position.specs.declared.Position.{Position}
use Rattle.position.proofs.Rules.{view_below}
use lib.Bits.{and_zero_r}
use Rattle.laws.specs.Each.{rewrite_kept}
use Rattle.steps.specs.Forms.Conduct.{give_allowed_in}
use Rattle.steps.specs.Conduct.{alice_gives_rule, bob_gives_rule}
use Rattle.steps.specs.Tests.{conduct_rule}
use Rattle.readings.specs.Forms.Context.{destination_sets, destination_set, sharers, senders, turns_in, candidates_in}
use Rattle.position.specs.Forms.Guards.{guards}
use Rattle.queries.specs.Forms.OpenSets.{open_set, below_sets, is_idle, context_of}
use Rattle.queries.proofs.OpenListed.{give_stands}
use Rattle.queries.proofs.OpenReach.{set_upto, set_none, set_sheet, set_given}
use Rattle.queries.proofs.OpenTurns.{none_open}

module _ (s u : List ℕ) (p : Position) (actor : ℕ) (fit : Fit s u) (v : View) (o : Guards) (seen : v ≡ view_below s (count s) p) (read : o ≡ guards s u p)
    (b : Bool) (asked : b ≡ is_idle s v o actor) (idle : b ≡ true)
  where
    -- a party in phase 0
    party_idle : is_party s actor ≡ true → ((guards s u p).free ≡ false) × ((guards s u p).phase ≡ 0)
    unfolding is_idle
    party_idle h =
        let w = and_parts (not o.free) _ (rw h at (sym asked ∙ idle)) in
        rw (← read) (not-true o.free w.0, eqb-true o.phase 0 w.1)

    -- another actor while the pool is empty
    other_idle : is_party s actor ≡ false → (view_below s (count s) p).pool ≡ 0
    unfolding is_idle
    other_idle h = rw (← seen) (eqb-true v.pool 0 (rw h at (sym asked ∙ idle)))

    none_tested : (k d : ℕ) → may_stand s k actor d ≡ true → (k ≡ 2 → ⊥) → candidates_in u (context_of s u p actor) (destination_sets s actor) k actor d ≡ 0
    unfolding candidates_in turns_in sharers senders may_stand party_may context_of
    none_tested k d m other =
        split (is_party s actor)
        (λ h.
        let w = party_idle h in
        split (eqb k 1)
        (λ e. rw (eqb-true k 1 e, w.0, w.1) (and_zero_r (destination_set (destination_sets s actor) d)))
        (λ e.
        either (or_parts (eqb k 3) (eqb k 4) (and_parts (eqb k 3 || eqb k 4) _ (rw (h, e, ne_eqb k 2 other) at m)).0)
        (λ f. rw (eqb-true k 3 f, w.0, w.1) (and_zero_r (destination_set (destination_sets s actor) d)))
        (λ f.
        split (eqb (stealth u) 1)
        (λ y. rw (eqb-true k 4 f, y, w.0, w.1) (and_zero_r (destination_set (destination_sets s actor) d)))
        (λ y. rw (eqb-true k 4 f, y) (and_zero_r (destination_set (destination_sets s actor) d))))))
        (λ h.
        either (or_parts (eqb k 5) (eqb k 7) (and_parts (eqb k 5 || eqb k 7) _ (and_parts (eqb actor miner) _ (rw h at m)).1).0)
        (λ f. rw (eqb-true k 5 f, other_idle h))
        (λ f. rw (eqb-true k 7 f, other_idle h)))

    none_given : (i d : ℕ) → is_party s actor ≡ true → gives_in (context_of s u p actor) actor i d ≡ false
    unfolding gives_in give_allowed_in alice_gives_rule bob_gives_rule conduct_rule first_failing context_of
    none_given i d h = let w = party_idle h in rw (w.0, w.1, and-false (eqb actor alice), and-false (eqb actor bob))

    set_empty : (k d : ℕ) → d < destinations → open_set s u p actor k d ≡ 0
    set_empty k d l =
        split (may_stand s k actor d)
        (λ m.
        split (eqb k 2)
        (λ e.
        let two = eqb-true k 2 e in
        let party = (give_stands s actor d (rw two at m)).0 in
        sym
        (set_given s u p actor k d 0 true (context_of s u p actor) fit fit.checked.signatures_few refl (sym m) refl l two
        (set_start _ ∙ sym (set_upto (signatures s) 0 _ (omega arith) (λ i a c. none_given i d party)))))
        (λ e.
        let other = eqb-false k 2 e in
        sym
        (set_sheet s u p actor k d 0 fit.checked.sized.few other
        (none_open s u p k actor d fit l m other _ (count s) (context_of s u p actor) (destination_sets s actor) refl refl refl refl (none_tested k d m other)))))
        (λ m. sym (set_none s u p actor k d false (sym m) refl))

    pub idle_sets : replicate 28 0 ≡ below_sets s u p actor
    unfolding below_sets
    idle_sets =
        sym
        (rewrite_kept 28 (λ i x. open_set s u p actor (i / 4 + 1) (i % 4)) (replicate 28 0) 0
        (λ i l. set_empty (i / 4 + 1) (i % 4) (omega arith) ∙ sym (get_or-replicate 28 i 0 0 l)))
