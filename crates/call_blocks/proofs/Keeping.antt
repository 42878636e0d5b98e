-- What an array keeps for each coin, and the ledger over it.
-- Assumes nothing.
use Rattle.laws.proofs.Prelude.{ℕ, zero, suc, ◌+◌, ◌*◌, ◌≤◌, ◌<◌, ◌≡◌, refl, sym, ◌∙◌, fun_ext, Bool, true, false, not, List, [], ◌∷◌, eqb, ltb, length, get_or, replicate}
use Rattle.laws.proofs.Prelude.{set, eqb-true, eqb-false, ltb-true, eq-eqb, ne_eqb, not-false, arith, Option, none, some, get_or-set_same, get_or-set_other, pick, split}
use Rattle.laws.proofs.Prelude.{clash, climb_in, climb}
use Rattle.position.proofs.Rules.{count, parent, opening, since_parent, lock_height, Checked, LockPair, absolute, since, Entry, coin_of, Kept, none_kept, lock_from, fits}
use Rattle.position.proofs.Rules.{keep, enter, ledger}
use Rattle.sheet.specs.Checked.{none}
use Rattle.ledger.proofs.Taking.{Fit, opens, spends, fits_says}
use Rattle.call_blocks.specs.declared.Listed.{Listed}
use Rattle.call_blocks.specs.BlockList.{list_entries}
use Rattle.call_blocks.specs.Forms.Listed.{listed_at, nothing, entry_of, last_of, kept_in}
use Rattle.call_blocks.proofs.Walk.{walk, left, left_all}
use Rattle.call_blocks.proofs.Named.{NamedFrom, named_low}

-- an entry fits what is kept for its coin ..
abbrev pub right : List ℕ → ℕ → Kept → Entry → Bool
right s per_day kept e = fits s per_day (kept (coin_of s e.transaction)) e

-- .. and is kept then
abbrev pub next : List ℕ → Kept → Entry → Kept
next s kept e = keep s e kept

module _ (s : List ℕ) (per_day : ℕ) where
  walk_enter : (l : List Entry) (kept : Kept) → walk (right s per_day) (next s) l kept ≡ (enter s per_day l kept).accepts
  unfolding walk enter
  walk_enter [] kept = refl
  walk_enter (e ∷ l) kept =
      split (fits s per_day (kept (coin_of s e.transaction)) e)
      (λ y. rw (y, enter) (walk_enter l (keep s e kept)))
      (λ y. rw (y, enter))

  walk_ledger : (l : List Entry) → walk (right s per_day) (next s) l none_kept ≡ (ledger s per_day l).accepts
  unfolding ledger
  walk_ledger l = walk_enter l none_kept

module _ (s : List ℕ) where
  -- a coin's number is none above its transaction's
  coin_in : (a m k t : ℕ) → a < m → t < m → climb_in (parent s) (λ j above. pick (opening s j) j above) a k t < m
  unfolding climb_in
  coin_in a m zero t h l = h
  coin_in a m (suc k) t h l =
      split (opening s t)
      (λ o. rw o l)
      (λ o.
      rw o
      (split (ltb (parent s t) t)
      (λ b. rw b (coin_in a m k (parent s t) h (omega (arith, ltb-true (parent s t) t b))))
      (λ b. rw b h)))

  coin_below : (m t : ℕ) → t < m → coin_of s t < m
  unfolding coin_of climb
  coin_below m t l = coin_in t m (suc t) t l l

none_at : (n coin : ℕ) → get_or (replicate n nothing) coin nothing ≡ nothing
none_at zero coin = refl
none_at (suc n) zero = refl
none_at (suc n) (suc coin) = none_at n coin

-- at first nothing is kept
keeps_none : (n : ℕ) → kept_in (replicate n nothing) ≡ none_kept
unfolding kept_in last_of none_kept
keeps_none n = fun_ext (λ coin. rw (none_at n coin))

pub keeps_start : (s : List ℕ) (per_day : ℕ) (list : List ℕ) → left (right s per_day) (next s) list 0 (kept_in (replicate 32 nothing)) ≡ (ledger s per_day (list_entries list)).accepts
keeps_start s per_day list = left_all (right s per_day) (next s) list (kept_in (replicate 32 nothing)) ∙ rw (keeps_none 32) (walk_ledger s per_day (list_entries list))

-- an entry stored at its coin is kept there
keeps_more : (s : List ℕ) (l : List Listed) (x : Listed) (coin : ℕ) → coin < length l → coin ≡ coin_of s x.transaction → (x.block ≡ 0 → ⊥)
    → kept_in (set l coin x) ≡ keep s (entry_of x) (kept_in l)
unfolding kept_in last_of keep
keeps_more s l x coin h e n =
    fun_ext
    (λ k.
    split (eqb k (coin_of s x.transaction))
    (λ y. rw (y, eqb-true k (coin_of s x.transaction) y ∙ sym e, get_or-set_same l coin x nothing h, ne_eqb x.block 0 n))
    (λ y. rw (y, get_or-set_other l coin k x nothing (λ q. eqb-false k (coin_of s x.transaction) y (q ∙ e)))))

-- an entry that fits stands in no block 0
above_none : (s : List ℕ) (per_day : ℕ) (last : Option Entry) (e : Entry) → Fit s per_day last e → e.block ≡ 0 → ⊥
above_none s per_day last e (opens h o l) z = omega arith
above_none s per_day last e (spends a h o p l) z = omega arith

fits_some : (s : List ℕ) (per_day : ℕ) (last : Option Entry) (e : Entry) → fits s per_day last e ≡ true → e.block ≡ 0 → ⊥
fits_some s per_day last e h = above_none s per_day last e (fits_says s per_day e last h)

module _ (s : List ℕ) (per_day : ℕ) (ok : Checked s) where
  lock_pair_lem : (t : ℕ) → opening s t ≡ true → LockPair s t → lock_height s per_day (λ k. 0) t ≡ lock_from s per_day 0 t
  unfolding lock_height lock_from
  lock_pair_lem t o (none e d) = rw e
  lock_pair_lem t o (absolute e a b) = rw e
  lock_pair_lem t o (since e a b f) = clash o f

  -- the lock height, and the ledger's lock: of an opening, and over a parent's block
  pub lock_opening : (t : ℕ) → t < count s → opening s t ≡ true → lock_height s per_day (λ k. 0) t ≡ lock_from s per_day 0 t
  lock_opening t l o = lock_pair_lem t o (ok.entries t l).lock_pair_lem

  pub lock_spend : (t p : ℕ) → 0 < p → lock_height s per_day (λ k. p) t ≡ lock_from s per_day p t
  unfolding lock_height lock_from since_parent
  lock_spend t p h = rw (ne_eqb p 0 (λ z. omega arith))

  module _ (e : Entry) (t : ℕ) (l : e.transaction < count s) (same : t ≡ e.transaction) where
    -- the returns of the code over none kept: o is whether t is an opening, h its lock height, b the block
    pub opens_right : (o : Bool) (h b : ℕ) → o ≡ opening s t → o ≡ true → h ≡ lock_height s per_day (λ k. 0) t → b ≡ e.block → ltb h b ≡ fits s per_day none e
    unfolding fits
    opens_right o h b p y q r =
        let z : opening s e.transaction ≡ true = rw (← same) (sym p ∙ y) in
        rw (z, q, r, same, lock_opening e.transaction l z)

    pub opens_wrong : (o : Bool) → o ≡ opening s t → o ≡ false → false ≡ fits s per_day none e
    unfolding fits
    opens_wrong o p y = let z : opening s e.transaction ≡ false = rw (← same) (sym p ∙ y) in rw z

    -- and over the last one kept: its transaction is a, the parent of t is u
    module _ (last : Entry) (some_block : 0 < last.block) (o : Bool) (p : o ≡ opening s t) where
      pub spends_opening : o ≡ true → false ≡ fits s per_day (some last) e
      unfolding fits
      spends_opening y = let z : opening s e.transaction ≡ true = rw (← same) (sym p ∙ y) in rw z

      pub spends_right : (a u h b : ℕ) → o ≡ false → a ≡ last.transaction → u ≡ parent s t → a ≡ u → h ≡ lock_height s per_day (λ k. last.block) t → b ≡ e.block
          → ltb h b ≡ fits s per_day (some last) e
      unfolding fits
      spends_right a u h b y m n k q r =
          let z : opening s e.transaction ≡ false = rw (← same) (sym p ∙ y) in
          let w : last.transaction ≡ parent s e.transaction = rw (← same) (sym m ∙ k ∙ n) in
          rw (z, eq-eqb last.transaction (parent s e.transaction) w, q, r, same, lock_spend e.transaction last.block some_block)

      pub spends_other : (a u : ℕ) → o ≡ false → a ≡ last.transaction → u ≡ parent s t → (a ≡ u → ⊥) → false ≡ fits s per_day (some last) e
      unfolding fits
      spends_other a u y m n k =
          let z : opening s e.transaction ≡ false = rw (← same) (sym p ∙ y) in
          rw (z, ne_eqb last.transaction (parent s e.transaction) (λ w. k (m ∙ w ∙ rw (← same) (sym n))))

-- a turn over a list of named entries: x is entry k, t its transaction, coin its coin
module _ (s list : List ℕ) (ok : Checked s) (k : ℕ) (x : Listed) (named : NamedFrom s list k) (room : 4 * k + 4 ≤ length list) (at : x ≡ listed_at list (4 * k)) (t : ℕ) (same : t ≡ x.transaction) where
  pub turn_low : t < count s
  turn_low = rw same (named_low s list k x named room at)

  pub turn_coin : (coin : ℕ) → coin ≡ coin_of s t → coin < 32
  turn_coin coin e = rw e (coin_below s 32 t (omega (arith, turn_low, ok.sized.few)))

-- what the code finds of an entry over the array is what the ledger finds
pub turn_right : (s : List ℕ) (per_day : ℕ) (l : List Listed) (x : Listed) (t coin : ℕ) (r : Bool) → t ≡ x.transaction → coin ≡ coin_of s t
    → r ≡ fits s per_day (last_of (get_or l coin nothing)) (entry_of x) → r ≡ right s per_day (kept_in l) (entry_of x)
unfolding kept_in
turn_right s per_day l x t coin r e q h = let w = rw e at q in rw (← w) h

-- and what it stores is what the ledger keeps
pub turn_keeps : (s : List ℕ) (per_day : ℕ) (l : List Listed) (x : Listed) (t coin : ℕ) (r : Bool) → coin < length l → t ≡ x.transaction → coin ≡ coin_of s t
    → r ≡ fits s per_day (last_of (get_or l coin nothing)) (entry_of x) → not r ≡ false → kept_in (set l coin x) ≡ next s (kept_in l) (entry_of x)
turn_keeps s per_day l x t coin r h e q f n =
    keeps_more s l x coin h (rw (← e) q) (fits_some s per_day (last_of (get_or l coin nothing)) (entry_of x) (sym f ∙ not-false r n))
