-- What can come without X after such a list could come before it.
-- Assumes nothing.
use Rattle.laws.proofs.Prelude.{ℕ, ◌<◌, ◌≡◌, Bool, true, false, not, ◌&&◌, ◌||◌, List, ◌⊎◌, inl, inr, eqb, leb, eqb-true, leb-true, lt-ltb, le-leb, arith, split, either}
use Rattle.laws.proofs.Prelude.{clash, and_parts, or_parts, fails_by}
use Rattle.position.proofs.Rules.{count, stealth, Checked, is_party, meets_other, invalidated, in_pool, pool_to, in_block, block_to, block_of, is_confirmed, deadline_in}
use Rattle.position.specs.declared.Position.{Position}
use Rattle.slots.proofs.Ancestors.{other_find, other_met}
use Rattle.claim_outage.proofs.Between.{between}
use Rattle.claim_outage.proofs.Play.{LaterIn}
use Rattle.attainable.specs.Attainable.{gone, overdue, waits_for, comes, Closed}
use Rattle.claim_attainable.proofs.Actors.{in_pool_lem, in_block_lem, chain}
use Rattle.claim_attainable.proofs.Alive.{has_block, stays}
use Rattle.claim_attainable.proofs.Bounded.{Bounded, stood}
use Rattle.claim_attainable.proofs.Carrying.{Carries, in_time_by, closes}

-- what is gone stays gone
still_gone : (s : List ℕ) (p q : Position) → LaterIn s p q → (t : ℕ) → t < count s → gone s q t ≡ false → gone s p t ≡ false
unfolding gone invalidated is_confirmed
still_gone s p q later t l h =
    fails_by (is_confirmed p t || (not (is_confirmed p t) && meets_other s (is_confirmed p) t))
    (λ y.
    split (is_confirmed q t)
    (λ c. clash {b = is_confirmed q t || (not (is_confirmed q t) && meets_other s (is_confirmed q) t)} (rw c) h)
    (λ n.
    either (or_parts (is_confirmed p t) (not (is_confirmed p t) && meets_other s (is_confirmed p) t) y)
    (λ c. clash (lt-ltb 0 (block_of q t) (stays s p q later t l (has_block p t c))) n)
    (λ z.
    let f = other_find s (is_confirmed p) t (and_parts (not (is_confirmed p t)) (meets_other s (is_confirmed p) t) z).1 in
    let now = lt-ltb 0 (block_of q f.1) (stays s p q later f.1 f.3 (has_block p f.1 f.5)) in
    let met = other_met s (is_confirmed q) f.1 f.2 f.3 f.4 now f.6 in
    clash {b = is_confirmed q t || (not (is_confirmed q t) && meets_other s (is_confirmed q) t)} (rw (n, met)) h)))

module _ (s u : List ℕ) (ok : Checked s) (p : Position) (x : ℕ) (who : is_party s x ≡ true) (also : ℕ → Bool) (members : ℕ)
    (closed : Closed s u p x also members) (q : Position) (b : Bounded s u ok p x who also members closed q) where
  fresh : (t : ℕ) → gone s p t ≡ false → is_confirmed p t ≡ false
  unfolding gone
  fresh t live = fails_by (is_confirmed p t) (λ y. clash {b = is_confirmed p t || invalidated s (is_confirmed p) t} (rw y) live)

  came : (t d : ℕ) → gone s p t ≡ false → (is_confirmed p t ≡ true) ⊎ (comes s u p x also members t d ≡ true) → comes s u p x also members t d ≡ true
  came t d live (inl y) = clash y (fresh t live)
  came t d live (inr y) = y

  still_due_lem : (t : ℕ) → t < count s → overdue s u p t ≡ true → overdue s u q t ≡ true
  unfolding overdue
  still_due_lem t l h =
      let y = and_parts (eqb (stealth u) 0) (leb (deadline_in s u p t) p.mined) h in
      let due = leb-true (deadline_in s u p t) p.mined y.1 in
      let falls = (between s u ok p t l q b.later b.sound).deadline_falls in
      rw (y.0, le-leb (deadline_in s u q t) q.mined (omega (arith, falls, due, b.later.time)))

  waited : (t d : ℕ) → gone s p t ≡ false → waits_for q t d ≡ true → comes s u p x also members t d ≡ true
  unfolding waits_for
  waited t d live h =
      either (or_parts (in_pool q t && eqb (pool_to q t) d) (in_block q t && eqb (block_to q t) d) h)
      (λ y. let w = and_parts (in_pool q t) (eqb (pool_to q t) d) y in came t d live (b.entries t d (in_pool_lem w.0 (eqb-true (pool_to q t) d w.1))))
      (λ y. let w = and_parts (in_block q t) (eqb (block_to q t) d) y in came t d live (b.entries t d (in_block_lem w.0 (eqb-true (block_to q t) d w.1))))

  pub carries : Carries s u p x also members q
  carries =
      record {
        live = still_gone s p q b.later;
        chain = λ t l c. stood s u ok p x who also members closed q b t l (chain c);
        waiting = waited;
        in_time_lem = λ t l. in_time_by s u p q x t (still_due_lem t l) (b.forgone t);
        keys = b.keys;
        shares = λ t d i n off j live h. either (b.shares t d i n off j h) inl (λ w. inr (came t d live w));
        shown = λ t d i l n j a h. b.shown t d i n j a h;
      }

  -- a closed set of p is closed in q
  pub still_closed : Closed s u q x also members
  still_closed = closes s u ok p x also members q carries closed
