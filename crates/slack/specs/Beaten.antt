-- What can come before a transaction that a party X counts on, while X takes no step up to a height. The words in quotes are those of
-- docs/DECISIONS.md, "Slack".
-- Assumes nothing.
use Rattle.std.specs.Prelude.{ℕ, ◌+◌, Bool, not, ◌&&◌, ◌||◌, List, eqb, ltb, leb}
use Rattle.std.specs.Int.Bits.{bit_or}
use Rattle.laws.specs.Booleans.{pick}
use Rattle.laws.specs.Below.{any_below}
use Rattle.laws.specs.Mask.{bit}
use Rattle.laws.specs.Sets.{set_below}
use Rattle.sheet.specs.Field.{count, parent}
use Rattle.sheet.specs.Setup.{per_day, stealth}
use Rattle.sheet.specs.LockHeight.{never}
use Rattle.slots.specs.Destination.{contract, destinations, is_payee, is_contract}
use Rattle.slots.specs.Conflict.{conflict}
use Rattle.slots.specs.Ancestry.{has_parent, is_self_or_ancestor}
use Rattle.slots.specs.Signatures.{signed}
use Rattle.position.specs.declared.Position.{Position}
use Rattle.position.specs.Position.{in_pool, pool_to, block_of, is_confirmed, shared}
use Rattle.soonest.specs.Soonest.{greater, lock_at, soonest_parent, since_locked}
use Rattle.attainable.specs.Attainable.{gone, waits_for, attainable, attainable_elsewhere}

-- "dest(t) = X if t pays, else 2."
unfoldable pub destination_of : List ℕ → ℕ → ℕ → ℕ
destination_of s x t = pick (is_contract s t) contract x

-- "above(t): the unconfirmed strict ancestors of t", as a set
unfoldable pub above : List ℕ → Position → ℕ → ℕ
above s p t = set_below (count s) (λ k. not (is_confirmed p k) && (not (eqb k t) && is_self_or_ancestor s k t))

-- "can(U ∪ above(t))" and "can' of the same", for a set U
unfoldable pub can_come : List ℕ → List ℕ → Position → ℕ → ℕ → ℕ → ℕ
can_come s u p x also t = attainable s u p x (bit (bit_or also (above s p t)))

unfoldable pub can_come_elsewhere : List ℕ → List ℕ → Position → ℕ → ℕ → ℕ → ℕ
can_come_elsewhere s u p x also t = attainable_elsewhere s u p x (bit (bit_or also (above s p t)))

-- "fixed: q confirmed or none", q being the parent of t
unfoldable pub fixed : List ℕ → Position → ℕ → Bool
fixed s p t = has_parent s (is_confirmed p) t

-- "runs: not fixed, and q in can({})"
unfoldable pub runs : List ℕ → List ℕ → Position → ℕ → ℕ → Bool
runs s u p x t = not (fixed s p t) && bit (attainable s u p x (bit 0)) (parent s t)

-- "own and his the lock heights of t and of a rival r with the parent in e", "q's block or its soonest block": that of r, a rival of t
unfoldable pub lock_beside : List ℕ → List ℕ → Position → ℕ → ℕ → ℕ
lock_beside s u p t r = lock_at s (per_day u) (soonest_parent s (per_day u) (block_of p) p.mined t) r

-- "pool: t in the pool for dest(t)"
unfoldable pub pooled : List ℕ → Position → ℕ → ℕ → Bool
pooled s p x t = in_pool p t && eqb (pool_to p t) (destination_of s x t)

-- "signs: required(t) ⊆ know ∪ shared(t, dest(t))"
unfoldable pub signs : List ℕ → Position → ℕ → ℕ → ℕ → Bool
signs s p x know t = signed s (bit_or know (shared p t (destination_of s x t))) t

-- own < his ≤ off
unfoldable pub locked_later : ℕ → ℕ → ℕ → Bool
locked_later own his off = ltb own his && leb his off

-- "late: fixed: own < his ≤ off; not fixed and r since the parent: runs and (t since the parent: own < his ≤ off; t not: max(his, own + 1) ≤ off);
-- not fixed and r not: own < his and (t not since the parent, or runs and his ≤ off)"
unfoldable pub late : List ℕ → List ℕ → Position → ℕ → ℕ → ℕ → ℕ → Bool
late s u p x off t r =
    let own = lock_beside s u p t t in
    let his = lock_beside s u p t r in
    pick (fixed s p t)
    (locked_later own his off)
    (pick (since_locked s r)
    (runs s u p x t && pick (since_locked s t) (locked_later own his off) (leb (greater his (own + 1)) off))
    (ltb own his && (not (since_locked s t) || (runs s u p x t && leb his off))))

-- "some rival r is late"
unfoldable pub any_late : List ℕ → List ℕ → Position → ℕ → ℕ → ℕ → Bool
any_late s u p x off t = any_below (count s) (λ r. conflict s r t && late s u p x off t r)

-- "It fails if t is gone, pays and does not pay X, or neither signs nor pool"; "stealth 0, not pool: fails if some rival r is late": it does not
unfoldable pub stands : List ℕ → List ℕ → Position → ℕ → ℕ → ℕ → ℕ → Bool
stands s u p x know off t =
    not (gone s p t)
    && ((is_contract s t || is_payee s t x)
    && ((signs s p x know t || pooled s p x t)
    && (not (eqb (stealth u) 0) || (pooled s p x t || not (any_late s u p x off t)))))

-- "in pool or block (t: for another payee)"
unfoldable pub waits_before : Position → ℕ → ℕ → ℕ → Bool
waits_before p x t r = any_below destinations (λ d. not (eqb r t && eqb d x) && waits_for p r d)

-- "where pool, his ≤ own; fixed: his ≤ max(off, own); not fixed: r not since the parent, or his ≤ own, or runs and his ≤ off"
unfoldable pub sooner : List ℕ → List ℕ → Position → ℕ → ℕ → ℕ → ℕ → Bool
sooner s u p x off t r =
    let own = lock_beside s u p t t in
    let his = lock_beside s u p t r in
    pick (pooled s p x t)
    (leb his own)
    (pick (fixed s p t)
    (leb his (greater off own))
    (not (since_locked s r) || (leb his own || (runs s u p x t && leb his off))))

-- "the rivals r in can(U ∪ above(t)), and t itself if it pays and is in can' of the same"
unfoldable pub comes_beside : List ℕ → List ℕ → Position → ℕ → ℕ → ℕ → ℕ → Bool
comes_beside s u p x also t r =
    pick (eqb r t)
    (not (is_contract s t) && bit (can_come_elsewhere s u p x also t) t)
    (bit (can_come s u p x also t) r)

-- r is in beat(t; U, off): "stealth 0 and pool: empty"; else those that come beside t and wait or are sooner
unfoldable pub beats : List ℕ → List ℕ → Position → ℕ → ℕ → ℕ → ℕ → ℕ → Bool
beats s u p x also off t r =
    not (eqb (stealth u) 0 && pooled s p x t)
    && (conflict s r t && (comes_beside s u p x also t r && (waits_before p x t r || sooner s u p x off t r)))

-- "last = max(off, own) + stealth if fixed and signs, else never"
unfoldable pub last : List ℕ → List ℕ → Position → ℕ → ℕ → ℕ → ℕ → ℕ
last s u p x know off t = pick (fixed s p t && signs s p x know t) (greater off (lock_beside s u p t t) + stealth u) never
