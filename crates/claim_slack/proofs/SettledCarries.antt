-- A step without X, between the settled positions: what can come after it could come before it.
-- Assumes nothing.
use Rattle.laws.proofs.Prelude.{ℕ, ◌<◌, ◌≡◌, sym, ◌∙◌, Bool, true, false, not, ◌&&◌, List, ◌⊎◌, inl, inr, eqb, leb, eqb-true, ltb-true, ltb-false, not-true, leb-true}
use Rattle.laws.proofs.Prelude.{le-leb, ltb, arith, split, either, clash, and_parts, or_parts, fails_by, bit}
use Rattle.position.proofs.Rules.{count, parent, opening, secrets, per_day, stealth, Checked, SetupChecked, destinations, is_party, exposed_mask, in_pool, pool_to, in_block, block_to, block_of}
use Rattle.position.specs.declared.Position.{Position}
use Rattle.position.proofs.Rules.{is_confirmed, confirmed_to, shared, holds, deadline_in, never}
use Rattle.position.specs.Position as at
use Rattle.slots.proofs.Parents.{parent_below}
use Rattle.claim_ledger.proofs.Sound.{Sound}
use Rattle.claim_outage.proofs.Play.{LaterIn}
use Rattle.attainable.specs.Attainable.{gone, others_keys, known_from, overdue, forgone, waits_for, comes, Closed}
use Rattle.attainable.proofs.Parts.{others_have, known_shared, known_member, have_keys, have_shared}
use Rattle.claim_attainable.proofs.Actors.{Place, in_pool_lem, in_block_lem, in_chain, ShownBy, by_share_lem, by_send_lem, by_block_lem, MovedBy}
use Rattle.claim_attainable.proofs.Alive.{has_block, stays}
use Rattle.claim_attainable.proofs.Shown.{secret_shown}
use Rattle.claim_attainable.proofs.Bounded.{right_small, share_held, shown_secret}
use Rattle.claim_attainable.proofs.Carrying.{Carries, in_time_by}
use Rattle.slack.proofs.Fixed.{same_block}
use Rattle.slack.proofs.Dead.{gone_confirmed, gone_met, gone_find}
use Rattle.claim_slack.proofs.Dues.{due_before_lem}
use Rattle.claim_slack.proofs.SettledFrom.{SettledFrom, Placed, placed_live, confirmed_by, placed_by, still_confirmed, block_open}
use Rattle.claim_slack.proofs.SettledComes.{nothing, entry_comes, known_here, held_here, sent_shown, sent_comes}

no_block : (p : Position) (t : ℕ) → is_confirmed p t ≡ false → block_of p t ≡ 0
unfolding is_confirmed
no_block p t n = omega (arith, ltb-false 0 (block_of p t) n)

module _ (s u : List ℕ) (ok : Checked s) (setup : SetupChecked s u) (p : Position) (g : Sound s u p) (p' : Position) (set : ℕ → Bool) (k : SettledFrom s p p' set)
    (x : ℕ) (who : is_party s x ≡ true) (q : Position) (on : Sound s u q) (later : LaterIn s p q) (m : MovedBy s u p x nothing q)
    (q' : Position) (set' : ℕ → Bool) (k' : SettledFrom s q q' set')
    (stay : (t : ℕ) → t < count s → is_confirmed p' t ≡ true → block_of q' t ≡ block_of p' t) (forgo : (t : ℕ) → forgone s u p' t ≡ true → forgone s u q' t ≡ true) where
  -- what is confirmed stays so
  lasts : (t : ℕ) → t < count s → is_confirmed p' t ≡ true → is_confirmed q' t ≡ true
  lasts t l c = same_block p' q' t (stay t l c) c

  live_before : (t : ℕ) → t < count s → gone s q' t ≡ false → gone s p' t ≡ false
  live_before t l live =
      fails_by (gone s p' t)
      (λ h.
      split (is_confirmed p' t)
      (λ c. clash (gone_confirmed s q' t (lasts t l c)) live)
      (λ n.
      let z = gone_find s p' t h n in
      clash (gone_met s q' z.0 t z.1 z.2 z.3 z.4 (lasts z.1 z.3 z.5) z.6) live))

  -- what is in the block, or mined, is not dead where it is not confirmed: before the step, and after it
  live_here : (t : ℕ) → t < count s → in_block p t ≡ true → is_confirmed p' t ≡ false → gone s p' t ≡ false
  live_here t l i n = placed_live s u ok p g p' (λ j y c. placed_by s u ok p g p' set k j c) t l (inl i) n

  live_then : (t : ℕ) → t < count s → Placed q t → is_confirmed p' t ≡ false → gone s p' t ≡ false
  live_then t l i n = placed_live s u ok q on p' (λ j y c. placed_by s u ok q on q' set' k' j (lasts j y c)) t l i n

  -- the blocks stay, or are new
  new_then : (t : ℕ) → t < count s → is_confirmed p' t ≡ false → is_confirmed q' t ≡ true → p.mined < block_of q' t
  new_then t l n c =
      split (set' t)
      (λ y. rw (k'.blocks t, y) (omega (arith, later.time)))
      (λ y.
      rw (k'.blocks t, y)
      (either (later.blocks t l)
      (λ e.
      let now : is_confirmed q t ≡ true = either (confirmed_by s u ok q on q' set' k' t c) (λ z. z) (λ z. clash z y) in
      clash (still_confirmed s u ok p g p' set k t (same_block q p t (sym e) now)) n)
      (λ w. w.1)))

  blocks_then : (t : ℕ) → t < count s → (block_of q' t ≡ block_of p' t) ⊎ ((block_of p' t ≡ 0) × (p.mined < block_of q' t))
  blocks_then t l =
      split (is_confirmed p' t)
      (λ c. inl (stay t l c))
      (λ n.
      split (is_confirmed q' t)
      (λ c. inr (no_block p' t n, new_then t l n c))
      (λ z. inl (no_block q' t z ∙ sym (no_block p' t n))))

  still_due_lem : (t : ℕ) → t < count s → overdue s u p' t ≡ true → overdue s u q' t ≡ true
  unfolding overdue deadline_in
  still_due_lem t l h =
      let y = and_parts (eqb (stealth u) 0) (leb (deadline_in s u p' t) p'.mined) h in
      let due = leb-true (deadline_in s u p' t) p'.mined y.1 in
      split (ltb q'.mined (deadline_in s u q' t))
      (λ z.
      let after = ltb-true q'.mined (deadline_in s u q' t) z in
      let low : p.mined < never = omega (arith, g.settled.limit) in
      let at_parent = split (opening s t) inl (λ o. inr (blocks_then (parent s t) (parent_below ok t l o))) in
      let before = due_before_lem ok (per_day u) setup.blocks_some p.mined low t l (block_of p') (block_of q') at_parent (omega (arith, after, k'.mined, later.time)) in
      absurd (omega (arith, due, before, k.mined)))
      (λ z. rw (y.0, le-leb (deadline_in s u q' t) q'.mined (ltb-false q'.mined (deadline_in s u q' t) z)))

  module _ (also : ℕ → Bool) (members : ℕ) (closed : Closed s u p' x also members) where
    -- an entry after the step comes, unless it is gone
    entry_then : (t e : ℕ) → Place q t e → gone s p' t ≡ false → comes s u p' x also members t e ≡ true
    entry_then t e h live =
        either (m.entries t e h)
        (λ y. entry_comes s u ok setup p g p' set k x who also members closed t e y live)
        (λ w. sent_comes s u ok setup p g p' set k x who also members closed t e w live)

    -- what is confirmed then and was not: in its block, or mined
    placed_to : (t : ℕ) → is_confirmed q' t ≡ true → Place q t (confirmed_to q' t)
    placed_to t c =
        split (set' t)
        (λ y. in_block_lem (k'.there t y) (sym (k'.to t ∙ rw y)))
        (λ y. in_chain (either (confirmed_by s u ok q on q' set' k' t c) (has_block q t) (λ z. clash z y)) (sym (k'.to t ∙ rw y)))

    came : (t : ℕ) → t < count s → is_confirmed p' t ≡ false → is_confirmed q' t ≡ true → comes s u p' x also members t (confirmed_to q' t) ≡ true
    came t l n c = entry_then t (confirmed_to q' t) (placed_to t c) (live_then t l (placed_by s u ok q on q' set' k' t c) n)

    came_small : (t : ℕ) → t < count s → is_confirmed q' t ≡ true → confirmed_to q' t < destinations
    came_small t l c =
        split (set' t)
        (λ y. rw (k'.to t, y) (right_small s t (block_to q t) (on.block_to_lem t l (k'.there t y))))
        (λ y.
        let now : is_confirmed q t ≡ true = either (confirmed_by s u ok q on q' set' k' t c) (λ z. z) (λ z. clash z y) in
        rw (k'.to t, y) (right_small s t (confirmed_to q t) (on.confirmed_to_lem t l now)))

    waited : (t d : ℕ) → gone s p' t ≡ false → waits_for q' t d ≡ true → comes s u p' x also members t d ≡ true
    unfolding waits_for
    waited t d live h =
        either (or_parts (in_pool q' t && eqb (pool_to q' t) d) (in_block q' t && eqb (block_to q' t) d) h)
        (λ y.
        let w = and_parts (in_pool q' t) (eqb (pool_to q' t) d) y in
        entry_then t d (in_pool_lem (sym (k'.pool t) ∙ w.0) (sym (k'.pool_to_lem t) ∙ eqb-true (pool_to q' t) d w.1)) live)
        (λ y.
        let w = and_parts (in_block q' t) (eqb (block_to q' t) d) y in
        let v = and_parts (in_block q t) (not (set' t)) (sym (k'.block t) ∙ w.0) in
        entry_then t d (in_block_lem v.0 (sym (k'.block_to_lem t (not-true (set' t) v.1)) ∙ eqb-true (block_to q' t) d w.1)) live)

    keys_then : (y i : ℕ) → is_party s y ≡ true → eqb y x ≡ false → i < 32 → holds q y i ≡ true → bit (others_keys s p' x) i ≡ true
    keys_then y i w apart l h =
        let here = held_here s u ok setup p g p' set k x who also members closed in
        either (m.gifts y i l h)
        (here y i w apart)
        (λ z. here z.0 i z.1 z.2 z.3)

    -- what a settled entry of p shows is known, and so is what a member shows
    settled_known : (t i : ℕ) → t < count s → bit (secrets s) i ≡ true → bit (exposed_mask s t) i ≡ true → set t ≡ true → bit (known_from s p' members) i ≡ true
    settled_known t i l a h y =
        let small = right_small s t (block_to p t) (g.block_to_lem t l (k.there t y)) in
        known_shared s p' members i (secret_shown s p' t (block_to p t) i l small a (k.shows t i y small h))

    member_known : (t e i : ℕ) → t < count s → e < destinations → bit (secrets s) i ≡ true → bit (exposed_mask s t) i ≡ true
        → comes s u p' x also members t e ≡ true → bit (known_from s p' members) i ≡ true
    member_known t e i l n a h c = known_member s p' members t i l (closed t l e n c) (shown_secret s t i a h)

    mined_known : (t e i : ℕ) → t < count s → e < destinations → bit (secrets s) i ≡ true → bit (exposed_mask s t) i ≡ true
        → in_block p t ≡ true → block_to p t ≡ e → bit (known_from s p' members) i ≡ true
    mined_known t e i l n a h y to =
        split (is_confirmed p' t)
        (λ c.
        either (confirmed_by s u ok p g p' set k t c)
        (λ z. absurd (omega (arith, has_block p t z, block_open s u ok p g p' set k t y)))
        (settled_known t i l a h))
        (λ c. member_known t e i l n a h (entry_comes s u ok setup p g p' set k x who also members closed t e (in_block_lem y to) (live_here t l y c)))

    settles_known : (t e i : ℕ) → t < count s → e < destinations → bit (secrets s) i ≡ true → bit (exposed_mask s t) i ≡ true
        → in_block q t ≡ true → block_to q t ≡ e → bit (known_from s p' members) i ≡ true
    settles_known t e i l n a h y to =
        split (is_confirmed p' t)
        (λ c.
        either (confirmed_by s u ok p g p' set k t c)
        (λ z. absurd (omega (arith, stays s p q later t l (has_block p t z), block_open s u ok q on q' set' k' t y)))
        (settled_known t i l a h))
        (λ c. member_known t e i l n a h (entry_then t e (in_block_lem y to) (live_then t l (inl y) c)))

    shown_by : (t e i : ℕ) → t < count s → e < destinations → bit (secrets s) i ≡ true → ShownBy s u p x nothing t e i
        → (bit (others_keys s p' x) i ≡ true) ⊎ (bit (known_from s p' members) i ≡ true)
    unfolding holds
    shown_by t e i l n a (by_share_lem party w apart h) =
        inl (held_here s u ok setup p g p' set k x who also members closed party i w apart (share_held s (at.keys p party) t i h))
    shown_by t e i l n a (by_send_lem w h) = sent_shown s u ok setup p g p' set k x who also members closed t e w i a h
    shown_by t e i l n a (by_block_lem y to h) = inr (mined_known t e i l n a h y to)

    shown_then : (t e i : ℕ) → t < count s → e < destinations → i < 32 → bit (secrets s) i ≡ true → bit (shared q' t e) i ≡ true
        → (bit (others_keys s p' x) i ≡ true) ⊎ (bit (known_from s p' members) i ≡ true)
    shown_then t e i l n j a h =
        either (k'.from t e i n h)
        (λ y.
        either (m.shares t e i n y)
        (λ z. inr (known_here s u ok setup p g p' set k x who also members closed t e i n a z))
        (shown_by t e i l n a))
        (λ y. inr (settles_known t e i l n a y.2 (k'.there t y.0) y.1))

    share_by : (t e i : ℕ) → gone s p' t ≡ false → ShownBy s u p x nothing t e i
        → (bit (others_have s p' x members t e) i ≡ true) ⊎ (comes s u p' x also members t e ≡ true)
    unfolding holds
    share_by t e i live (by_share_lem party w apart h) =
        inl (have_keys s p' x members t e i (held_here s u ok setup p g p' set k x who also members closed party i w apart (share_held s (at.keys p party) t i h)))
    share_by t e i live (by_send_lem w h) = inr (sent_comes s u ok setup p g p' set k x who also members closed t e w live)
    share_by t e i live (by_block_lem y to h) = inr (entry_comes s u ok setup p g p' set k x who also members closed t e (in_block_lem y to) live)

    shares_then : (t e i : ℕ) → e < destinations → gone s p' t ≡ false → bit (shared q' t e) i ≡ true
        → (bit (others_have s p' x members t e) i ≡ true) ⊎ (comes s u p' x also members t e ≡ true)
    shares_then t e i n live h =
        either (k'.from t e i n h)
        (λ y. either (m.shares t e i n y) (λ z. inl (have_shared s p' x members t e i (k.kept t e i n z))) (share_by t e i live))
        (λ y. inr (entry_then t e (in_block_lem (k'.there t y.0) y.1) live))

    carries : Carries s u p' x also members q'
    unfolding holds
    carries =
        record {
          live = live_before;
          chain = λ t l c.
              split (is_confirmed p' t)
              inl
              (λ n. inr (closed t l (confirmed_to q' t) (came_small t l c) (came t l n c)));
          waiting = waited;
          in_time_lem = λ t l. in_time_by s u p' q' x t (still_due_lem t l) (forgo t);
          keys = λ y i w apart l h. keys_then y i w apart l (rw (k'.keys y) at h);
          shares = λ t d i n off j live h. shares_then t d i n live h;
          shown = shown_then;
        }

    -- what can come then could before, and what is confirmed then and was not came for its destination
    pub carried : Carries s u p' x also members q'
        × ((t : ℕ) → t < count s → is_confirmed p' t ≡ false → is_confirmed q' t ≡ true
        → (confirmed_to q' t < destinations) × (comes s u p' x also members t (confirmed_to q' t) ≡ true))
    carried = (carries, λ t l n c. (came_small t l c, came t l n c))
