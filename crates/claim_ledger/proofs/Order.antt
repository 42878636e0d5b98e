-- The confirmed entries of a list stand by block and then number, and name the sheet's transactions.
-- Assumes nothing.
use Rattle.laws.proofs.Prelude.{ℕ, zero, suc, ◌+◌, ◌<◌, ◌≡◌, refl, ap, ◌∙◌, true, List, [], ◌∷◌, ◌++◌, ltb, eq-eqb, lt-ltb, arith, pick, split, and_parts, or_right}
use Rattle.laws.proofs.Prelude.{gather, All, empty, also, all_append, all_weaken}
use Rattle.position.proofs.Rules.{count, sheet_refusal, setup_refusal, Step, Entry, before, in_order, Some, in_block, block_to, effect, FourBytes, block_entries}
use Rattle.position.specs.declared.Position.{Position}
use Rattle.position.proofs.Rules.{confirms, confirmed_entries}
use Rattle.sheet.proofs.Theorems.{sheet_checked}
use Rattle.step_laws.proofs.AfterBlocks.{mine_mined}
use Rattle.position.proofs.StepCases.{StepCase, taken, turned_down, step_case}
use Rattle.claim_ledger.proofs.Sound.{Sound}
use Rattle.claim_ledger.proofs.SoundSteps.{sound_step}
use Rattle.claim_ledger.proofs.EachKind.{wide}
use Rattle.claim_ledger.proofs.Confirming.{StepConfirms, nothing, the_block, step_confirms, entries_taken, entries_refused}

-- two lists in order, each entry of the first before each of the second
pub order_append : {P Q : Entry → Type 0} → ((x y : Entry) → P x → Q y → before x y ≡ true) → {a b : List Entry} → All P a → All Q b → in_order a ≡ true → in_order b ≡ true → in_order (a ++ b) ≡ true
unfolding in_order
order_append f empty r h k = k
order_append f (also p empty) empty h k = refl
order_append f (also {x = x} p empty) (also {x = y} q r) h k = rw (f x y p q) k
order_append f (also {x = x} p (also {x = y} {l = l} q t)) r h k =
    let w = and_parts (before x y) (in_order (y ∷ l)) h in
    rw w.0 (order_append f (also q t) r w.1 k)

-- an entry of the block after m, of a number below n
pub record InBlock (m n : ℕ) (e : Entry) : Type 0 where
  pub block : e.block ≡ m + 1
  pub number : e.transaction < n

-- an entry of a block after m, of one of the sheet's transactions
pub record Later (s : List ℕ) (m : ℕ) (e : Entry) : Type 0 where
  pub block : m < e.block
  pub low : e.transaction < count s

by_number : (m n : ℕ) (x y : Entry) → InBlock m n x → (y.block ≡ m + 1) × (y.transaction ≡ n) → before x y ≡ true
unfolding before
by_number m n x y a b =
    rw (eq-eqb x.block y.block (omega (arith, b.0)), lt-ltb x.transaction y.transaction (omega (arith, b.1)))
    (or_right (ltb x.block y.block) true refl)

by_block_lem : (s : List ℕ) (m : ℕ) (x y : Entry) → InBlock m (count s) x → Later s (m + 1) y → before x y ≡ true
unfolding before
by_block_lem s m x y a b = rw (lt-ltb x.block y.block (omega arith))

module _ (s : List ℕ) (p : Position) where
  abbrev entry_at : ℕ → Entry
  entry_at t = record { transaction = t; destination = block_to p t; block = p.mined + 1 }

  abbrev rows : ℕ → List Entry
  rows t = pick (in_block p t) (entry_at t ∷ []) []

  row_in : (t : ℕ) → All (λ e. (e.block ≡ p.mined + 1) × (e.transaction ≡ t)) (rows t)
  row_in t = split (in_block p t) (λ b. rw b (also (refl, refl) empty)) (λ b. rw b empty)

  row_order : (t : ℕ) → in_order (rows t) ≡ true
  unfolding in_order
  row_order t = split (in_block p t) (λ b. rw b) (λ b. rw b)

  rows_in : (n : ℕ) → All (InBlock p.mined n) (gather n rows)
  unfolding gather
  rows_in zero = empty
  rows_in (suc n) =
      all_append
      (all_weaken (λ e h. record { block = h.block; number = omega (arith, h.number) }) (rows_in n))
      (all_weaken (λ e h. record { block = h.0; number = omega (arith, h.1) }) (row_in n))

  rows_order : (n : ℕ) → in_order (gather n rows) ≡ true
  unfolding gather in_order
  rows_order zero = refl
  rows_order (suc n) = order_append (by_number p.mined n) (rows_in n) (row_in n) (rows_order n) (row_order n)

  pub block_in : All (InBlock p.mined (count s)) (block_entries s p)
  unfolding block_entries
  block_in = rows_in (count s)

  block_order : in_order (block_entries s p) ≡ true
  unfolding block_entries
  block_order = rows_order (count s)

-- entries in order, all of blocks after m and of the sheet's transactions
pub record After (s : List ℕ) (m : ℕ) (l : List Entry) : Type 0 where
  pub order : in_order l ≡ true
  pub each : All (Later s m) l

after_same : {s : List ℕ} {m n : ℕ} {l : List Entry} → m ≡ n → After s m l → After s n l
after_same e r = rw e at r

module _ (s u : List ℕ) (h : sheet_refusal s ≡ 0) (k : setup_refusal s u ≡ 0) where
  block_then : (p : Position) (l : List Entry) → After s (p.mined + 1) l → After s p.mined (block_entries s p ++ l)
  block_then p l r =
      record {
        order = order_append (by_block_lem s p.mined) (block_in s p) r.each (block_order s p) r.order;
        each =
            all_append
            (all_weaken (λ e w. record { block = omega (arith, w.block); low = w.number }) (block_in s p))
            (all_weaken (λ e w. record { block = omega (arith, w.block); low = w.low }) r.each);
      }

  abbrev Rest : List FourBytes → Type 0
  Rest bs = (p : Position) → Sound s u p → After s p.mined (confirmed_entries s u bs p)

  step_then : (bs : List FourBytes) → Rest bs → (p : Position) → Sound s u p → (x : Step) → Sound s u (effect s p x) → StepConfirms s p x
      → After s p.mined (confirms s p (Some x) ++ confirmed_entries s u bs (effect s p x))
  step_then bs rest p g x q (nothing e c) = rw e (after_same c.mined (rest (effect s p x) q))
  step_then bs rest p g x q (the_block e a) =
      rw e
      (block_then p (confirmed_entries s u bs (effect s p x)) (after_same (ap (λ (r : Position). r.mined) a ∙ mine_mined s p (wide s u (sheet_checked s h) p g) g.beyond) (rest (effect s p x) q)))

  first_then : (b : FourBytes) (bs : List FourBytes) → Rest bs → (p : Position) → Sound s u p → StepCase s u p b → After s p.mined (confirmed_entries s u (b ∷ bs) p)
  first_then b bs rest p g (taken x d f r e) =
      rw (entries_taken s u b bs p x d e)
      (step_then bs rest p g x (rw e at (sound_step s u h k p b g)) (step_confirms s u (sheet_checked s h) p g x))
  first_then b bs rest p g (turned_down n m e) = rw (entries_refused s u b bs p n m e) (rest p g)

  pub entries_after : (bs : List FourBytes) → Rest bs
  unfolding confirmed_entries in_order
  entries_after [] p g = record { order = refl; each = empty }
  entries_after (b ∷ bs) p g = first_then b bs (entries_after bs) p g (step_case s u p b)
