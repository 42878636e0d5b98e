-- Tightness: the plain ledger takes a list that brings a transaction which is not dead into its soonest block.
-- Assumes nothing.
use Rattle.laws.proofs.Prelude.{ℕ, zero, suc, ◌+◌, ◌≤◌, ◌<◌, ◌≡◌, refl, sym, ap, ◌∙◌, true, false, not, ◌&&◌, List, [], ◌∷◌, ◌++◌, append_assoc, append-nil, eqb, ltb}
use Rattle.laws.proofs.Prelude.{eqb-true, ltb-true, ltb-false, eq-eqb, ne_eqb, lt-ltb, arith, not-suc-le-zero, none, some, split, either, clash, and_parts, All, empty}
use Rattle.laws.proofs.Prelude.{also, all_append, all_weaken, any_found}
use Rattle.position.proofs.Rules.{count, parent, opening, lock_type, since_parent, lock_height, sheet_refusal, per_day, setup_refusal, Checked, LockPair, absolute, since}
use Rattle.position.proofs.Rules.{conflict, conflict_in, invalidated, meets_other, Entry, before, in_order, coin_of, Kept, Books, none_kept, lock_from, fits, keep, enter}
use Rattle.position.proofs.Rules.{ledger, start, is_confirmed, block_of, confirmed_to, FourBytes}
use Rattle.position.specs.declared.Position.{Position}
use Rattle.sheet.specs.Checked.{none}
use Rattle.sheet.proofs.Theorems.{sheet_checked}
use Rattle.slots.specs.Conflict.{other_conflict_in}
use Rattle.slots.specs.Ancestry.{in_ancestry}
use Rattle.slots.proofs.Parents.{child_spends, parent_lower, parent_below, parent_has}
use Rattle.slots.proofs.Conflicts.{siblings_conflict}
use Rattle.slots.proofs.Ancestors.{Above, here, up, line_at_lem, holds_above}
use Rattle.ledger.proofs.Taking.{opening_fits, spend_fits, enter_next, enter_parts, keep_own}
use Rattle.claim_ledger.proofs.SoundSteps.{sound_start}
use Rattle.readings.proofs.Coins.{coin_opening, coin_spend, coin_above}
use Rattle.claim_ledger.proofs.Linked.{Linked}
use Rattle.claim_ledger.proofs.OneEntry.{kept_cases}
use Rattle.claim_ledger.proofs.TakenList.{start_linked, list_taken}
use Rattle.claim_ledger.specs.Claim.{entries_of, position_of}
use Rattle.claim_outage.specs.Claim.{Reached}
use Rattle.soonest.specs.Soonest.{greater, lock_at, soonest_block, soonest_parent}
use Rattle.call_outage.specs.Verdict.{soonest_block_in}
use Rattle.soonest.proofs.Bounds.{greater_left, greater_right}
use Rattle.claim_outage.proofs.Entries.{order_behind}
use Rattle.soonest.proofs.SoonestParents.{soonest_there, soonest_open, parent_soonest, parent_some, opening_none}
use Rattle.ledger.proofs.Rising.{before_number}

-- the ledger's lock is the lock height
pub from_by : (s : List ℕ) (d e t : ℕ) → (opening s t ≡ false → 0 < e) → LockPair s t → lock_from s d e t ≡ lock_at s d e t
unfolding lock_from lock_at lock_height since_parent
from_by s d e t h (none a b) = rw (eq-eqb (lock_type s t) 0 a)
from_by s d e t h (absolute a b c) = rw (ne_eqb (lock_type s t) 0 (λ z. omega arith), eq-eqb (lock_type s t) 1 a)
from_by s d e t h (since a b c o) =
    let l = h o in
    rw (ne_eqb (lock_type s t) 0 (λ z. omega arith), ne_eqb (lock_type s t) 1 (λ z. omega arith), ne_eqb e 0 (λ z. omega arith))

-- an entry behind a list in order
pub order_then : (x : Entry) {l : List Entry} → All (λ e. before e x ≡ true) l → in_order l ≡ true → in_order (l ++ (x ∷ [])) ≡ true
unfolding in_order
order_then x empty h = refl
order_then x (also a empty) h = rw a
order_then x (also {x = y} a (also {x = z} {l = l} b r)) h =
    let w = and_parts (before y z) (in_order (z ∷ l)) h in
    rw w.0 (order_then x (also b r) w.1)

-- a list behind one that the ledger took
pub enter_on : (s : List ℕ) (d : ℕ) (a b : List Entry) (kept after : Kept) → enter s d a kept ≡ record { accepts = true; kept = after } → enter s d (a ++ b) kept ≡ enter s d b after
unfolding enter
enter_on s d [] b kept after h = ap (λ (k : Kept). enter s d b k) (ap (λ (r : Books). r.kept) h)
enter_on s d (e ∷ a) b kept after h =
    let w = enter_parts s d e a kept (ap (λ (r : Books). r.accepts) h) in
    enter_next s d e (a ++ b) kept w.0 ∙ enter_on s d a b (keep s e kept) after (sym (enter_next s d e a kept w.0) ∙ h)

module _ {s : List ℕ} (ok : Checked s) (d : ℕ) (block to : ℕ → ℕ) (mined : ℕ) (kept : Kept) (lk : Linked s block to kept) where
  abbrev soonest : ℕ → ℕ
  soonest = soonest_block s d block mined

  -- t is not dead: none of its line has another rival that is confirmed
  abbrev pub Alive : ℕ → Type 0
  Alive t = (x : ℕ) → Above s x t → (k : ℕ) → k < count s → conflict s k x ≡ true → 0 < block k → k ≡ x

  -- a list that ends with t in block b
  pub record Reach (t b : ℕ) : Type 0 where
    pub list : List Entry
    pub after : Kept
    pub last : Entry
    pub entered : (es : List Entry) → enter s d (list ++ es) kept ≡ enter s d es after
    pub stands : after (coin_of s t) ≡ some last
    pub names : last.transaction ≡ t
    pub when : last.block ≡ b
    pub order : in_order list ≡ true
    pub each : All (λ e. (mined < e.block) × (e.block ≤ b) × (e.transaction ≤ t)) list

  -- t's entry in block b, behind a list whose last block is a
  module _ (t : ℕ) (l : t < count s) (a b : ℕ) (next : mined < b) (later : a ≤ b) (lock : lock_at s d a t < b) where
    abbrev entry : Entry
    entry = record { transaction = t; destination = to t; block = b }

    behind : (list : List Entry) (after : Kept) → ((es : List Entry) → enter s d (list ++ es) kept ≡ enter s d es after) → fits s d (after (coin_of s t)) entry ≡ true
        → in_order list ≡ true → All (λ e. (mined < e.block) × (e.block ≤ a) × (e.transaction < t)) list → Reach t b
    behind list after entered f order each =
        record {
          list = list ++ (entry ∷ []);
          after = keep s entry after;
          last = entry;
          entered = λ es. rw (append_assoc list (entry ∷ []) es) (entered (entry ∷ es) ∙ enter_next s d entry es after f);
          stands = keep_own s entry after (coin_of s t) (eq-eqb (coin_of s t) (coin_of s t) refl);
          names = refl;
          when = refl;
          order = order_then entry (all_weaken (λ e w. before_number e entry (omega (arith, w.1)) w.2) each) order;
          each =
              all_append
              (all_weaken (λ e w. (w.0, omega (arith, w.1), omega (arith, w.2))) each)
              (also (next, omega arith, omega arith) empty);
        }

    lock_from_lem : (opening s t ≡ false → 0 < a) → lock_from s d a t < b
    lock_from_lem has = rw (from_by s d a t has (ok.entries t l).lock_pair_lem) lock

    -- an opening finds none kept
    fresh : block t ≡ 0 → opening s t ≡ true → (e : Entry) → kept (coin_of s t) ≡ some e → ⊥
    fresh new o e h =
        let f = lk.leaf (coin_of s t) e h in
        let c = rw (f.own, coin_opening s t o) at (holds_above (λ k. 0 < block k) (λ k n z c. lk.parents k n c (parent_has ok k n z)) (coin_above s ok e.transaction f.low) f.low f.confirmed) in
        omega (arith, c)

    reach_opening : block t ≡ 0 → opening s t ≡ true → a ≡ 0 → Reach t b
    unfolding in_order
    reach_opening new o z =
        kept_cases (kept (coin_of s t))
        (λ e. behind [] kept (λ es. refl) (rw e (opening_fits s d entry o (rw z at (lock_from_lem (λ f. clash o f))))) refl empty)
        (λ e h. absurd (fresh new o e h))

    -- a spend stands behind its parent
    reach_spend : opening s t ≡ false → 0 < a → Reach (parent s t) a → Reach t b
    reach_spend o has r =
        let low = parent_lower ok t l o in
        behind r.list r.after r.entered
        (rw (coin_spend s ok t l o, r.stands) (spend_fits s d entry r.last o r.names (rw r.when (lock_from_lem (λ f. has)))))
        r.order
        (all_weaken (λ x w. (w.0, w.1, omega (arith, w.2))) r.each)

  -- a confirmed parent of a transaction that is not dead has its entry kept
  reach_there : (t : ℕ) → t < count s → block t ≡ 0 → Alive t → opening s t ≡ false → 0 < block (parent s t) → Reach (parent s t) (block (parent s t))
  unfolding in_order
  reach_there t l new alive o c =
      let q = parent s t in
      let lq = parent_below ok t l o in
      let w : (e : Entry) × (kept (coin_of s q) ≡ some e) × (e.transaction ≡ q) =
      either (lk.covers q lq c)
      (λ y.
      let same = alive t here y.0 y.1 (siblings_conflict s y.0 t (child_spends ok y.0 (rw y.2 lq)) y.2) y.3 in
      let z : 0 < block t = rw same at y.3 in
      absurd (omega (arith, z)))
      (λ y. y) in
      record {
        list = [];
        after = kept;
        last = w.0;
        entered = λ es. refl;
        stands = w.1;
        names = w.2;
        when = (lk.leaf (coin_of s q) w.0 w.1).height ∙ ap block w.2;
        order = refl;
        each = empty;
      }

  -- the soonest block is above the blocks mined, the lock, and no earlier than the parent's
  bounds : (t : ℕ) → block t ≡ 0 → let e = soonest_parent s d block mined t in (mined < soonest t) × (e ≤ soonest t) × (lock_at s d e t < soonest t)
  bounds t new =
      let e = soonest_parent s d block mined t in
      let x = greater_left (mined + 1) (greater e (lock_at s d e t + 1)) in
      let y = greater_right (mined + 1) (greater e (lock_at s d e t + 1)) in
      let z = greater_left e (lock_at s d e t + 1) in
      let w = greater_right e (lock_at s d e t + 1) in
      rw (soonest_open s d block mined t new) (omega arith, omega arith, omega arith)

  -- the parent in its soonest block, where it is confirmed or reached there
  parent_by : (t : ℕ) → t < count s → block t ≡ 0 → Alive t → opening s t ≡ false → (block (parent s t) ≡ 0 → Reach (parent s t) (soonest (parent s t)))
      → Reach (parent s t) (soonest_parent s d block mined t)
  parent_by t l new alive o f =
      let e = parent_soonest s d block mined t (parent_lower ok t l o) in
      split (ltb 0 (block (parent s t)))
      (λ y. let c = ltb-true 0 (block (parent s t)) y in rw (e, soonest_there s d block mined (parent s t) c) (reach_there t l new alive o c))
      (λ y. rw e (f (omega (arith, ltb-false 0 (block (parent s t)) y))))

  -- any block from the soonest on
  reach_below : (n t b : ℕ) → t < n → t < count s → block t ≡ 0 → Alive t → soonest t ≤ b → Reach t b
  reach_below zero t b h l new alive f = absurd (not-suc-le-zero h)
  reach_below (suc n) t b h l new alive f =
      let e = soonest_parent s d block mined t in
      let w = bounds t new in
      split (opening s t)
      (λ o. reach_opening t l e b (omega (arith, w.0)) (omega (arith, w.1)) (omega (arith, w.2)) new o (opening_none ok d block mined t l o))
      (λ o.
      let low = parent_lower ok t l o in
      reach_spend t l e b (omega (arith, w.0)) (omega (arith, w.1)) (omega (arith, w.2)) o (parent_some ok d block mined t l o)
      (parent_by t l new alive o
      (λ z. reach_below n (parent s t) (soonest (parent s t)) (omega arith) (parent_below ok t l o) z (λ x r. alive x (up low r)) (omega arith))))

  pub reach : (t b : ℕ) → t < count s → block t ≡ 0 → Alive t → soonest t ≤ b → Reach t b
  reach t b = reach_below (suc t) t b (omega arith)

  -- the parent in its soonest block, or, where it is unconfirmed, in any block from that on
  pub reach_parent : (t : ℕ) → t < count s → block t ≡ 0 → Alive t → opening s t ≡ false → Reach (parent s t) (soonest_parent s d block mined t)
  reach_parent t l new alive o =
      let low = parent_lower ok t l o in
      parent_by t l new alive o (λ z. reach (parent s t) (soonest (parent s t)) (parent_below ok t l o) z (λ x r. alive x (up low r)) (omega arith))

  pub parent_later : (t a : ℕ) → t < count s → Alive t → opening s t ≡ false → block (parent s t) ≡ 0 → soonest_parent s d block mined t ≤ a → Reach (parent s t) a
  parent_later t a l alive o z h =
      let low = parent_lower ok t l o in
      let e = parent_soonest s d block mined t low in
      reach (parent s t) a (parent_below ok t l o) z (λ x r. alive x (up low r)) (omega arith)

-- neither confirmed nor dead
pub alive : (s : List ℕ) (p : Position) (t : ℕ) → is_confirmed p t ≡ false → invalidated s (is_confirmed p) t ≡ false
    → (x : ℕ) → Above s x t → (k : ℕ) → k < count s → conflict s k x ≡ true → 0 < block_of p k → k ≡ x
unfolding invalidated meets_other other_conflict_in conflict_in is_confirmed
alive s p t new live x r k lk c b =
    let off : in_ancestry s (other_conflict_in s (is_confirmed p)) t ≡ false = rw new at live in
    split (eqb k x)
    (eqb-true k x)
    (λ y.
    let found = any_found (count s) k (λ j. conflict s j x && (not (eqb j x) && is_confirmed p j)) lk (rw (c, y, lt-ltb 0 (block_of p k) b)) in
    clash (line_at_lem s (other_conflict_in s (is_confirmed p)) r found) off)

module _ (s u : List ℕ) (h : sheet_refusal s ≡ 0) (k : setup_refusal s u ≡ 0) (now : List FourBytes) (t : ℕ) (l : t < count s) where
  unplaced : is_confirmed (position_of s u now) t ≡ false → block_of (position_of s u now) t ≡ 0
  unfolding is_confirmed
  unplaced new = let z = ltb-false 0 (block_of (position_of s u now) t) new in omega arith

  pub reached : is_confirmed (position_of s u now) t ≡ false → invalidated s (is_confirmed (position_of s u now)) t ≡ false → Reached s u now t
  unfolding ledger soonest_block_in enter
  reached new live =
      let p = position_of s u now in
      let w = list_taken s u h k now (start s) none_kept (sound_start s u) (start_linked s) in
      let r = reach (sheet_checked s h) (per_day u) (block_of p) (confirmed_to p) p.mined w.after w.linked t (soonest_block s (per_day u) (block_of p) p.mined t) l (unplaced new) (alive s p t new live) (omega arith) in
      let e : enter s (per_day u) (entries_of s u now ++ r.list) none_kept ≡ record { accepts = true; kept = r.after } =
      enter_on s (per_day u) (entries_of s u now) r.list none_kept w.after w.entered
      ∙ sym (ap (λ (a : List Entry). enter s (per_day u) a w.after) (append-nil r.list))
      ∙ r.entered [] in
      record {
        more = r.list;
        last = r.last;
        accepts = ap (λ (b : Books). b.accepts) e;
        kept = ap (λ (b : Books). b.kept (coin_of s t)) e ∙ r.stands;
        names = r.names;
        when = r.when;
        order = order_behind s u h k now r.list r.order (all_weaken (λ x y. y.0) r.each);
        each = all_weaken (λ x y. y.0) r.each;
      }
