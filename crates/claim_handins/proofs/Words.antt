-- Computed examples: what the words of the claim say, on both sides.
-- Assumes nothing.
use Rattle.laws.proofs.Prelude.{ℕ, ◌≡◌, refl, ap, true, false, List, [], ◌∷◌, ◌++◌, eqb, eqb-false, map, every}
use Rattle.position.proofs.Rules.{saswap, never, bob, contract, success, slot, block_of, shared, keys, journal_steps, run}
use Rattle.position.specs.declared.Position.{Position}
use Rattle.position.proofs.Opened.{opened}
use Rattle.dated.specs.declared.Dated.{Dated}
use Rattle.dated.specs.Dated.{count_of, dated_run}
use Rattle.dated.proofs.OpenedRules.{opened_dated}
use Rattle.claim_handins.specs.Early.{early_kind, early, early_bytes}
use Rattle.claim_handins.specs.Claim.{emptied, emptied_dated, BlockApart, DatedApart, play_dated}

-- which of 0 to 8 are kinds 1, 2 and 3
early_kinds : map early_kind (0 ∷ 1 ∷ 2 ∷ 3 ∷ 4 ∷ 5 ∷ 6 ∷ 7 ∷ 8 ∷ []) ≡ false ∷ true ∷ true ∷ true ∷ false ∷ false ∷ false ∷ false ∷ false ∷ []
unfolding early_kind
early_kinds = refl

-- of six steps, one of each kind from 1 to 6, and a rest of three bytes, three are left
early_row : early_bytes (1 ∷ 0 ∷ 2 ∷ 2 ∷ 4 ∷ 1 ∷ 2 ∷ 2 ∷ 3 ∷ 1 ∷ 9 ∷ 1 ∷ 5 ∷ 2 ∷ 3 ∷ 2 ∷ 6 ∷ 2 ∷ 255 ∷ 2 ∷ 2 ∷ 1 ∷ 3 ∷ 0 ∷ 3 ∷ 3 ∷ 3 ∷ [])
    ≡ 1 ∷ 0 ∷ 2 ∷ 2 ∷ 3 ∷ 1 ∷ 9 ∷ 1 ∷ 2 ∷ 1 ∷ 3 ∷ 0 ∷ []
unfolding early_bytes early_kind
early_row = refl

-- 3 blocks per day, open, with stealth
abbrev open3 : List ℕ
open3 = 3 ∷ 0 ∷ 0 ∷ 1 ∷ []

abbrev played : List ℕ → Position
played j = (run (saswap 3) open3 j).position

-- lock_A handed in, sent to the pool, mined; success shared by Alice; sig_alice given to Bob
abbrev handed : List ℕ
handed = 4 ∷ 0 ∷ 0 ∷ 2 ∷ []

abbrev pooled : List ℕ
pooled = 3 ∷ 0 ∷ 0 ∷ 2 ∷ []

abbrev mined : List ℕ
mined = handed ++ (6 ∷ 2 ∷ 255 ∷ 2 ∷ [])

abbrev shares : List ℕ
shares = 1 ∷ 0 ∷ 2 ∷ 2 ∷ []

abbrev gives : List ℕ
gives = 2 ∷ 0 ∷ 0 ∷ 1 ∷ []

-- positions before and after a hand-in and an inclusion differ in the block alone
handed_apart : BlockApart (played []) (played handed)
unfolding opened emptied
handed_apart = refl

included_apart : BlockApart (played pooled) (played (pooled ++ (5 ∷ 2 ∷ 0 ∷ 2 ∷ [])))
unfolding opened emptied
included_apart = refl

-- those that differ in the pool, the chain, shared knowledge, share marks or keys do not
told : (f : Position → ℕ) (p q : Position) → eqb (f (emptied p)) (f (emptied q)) ≡ false → BlockApart p q → ⊥
told f p q h a = eqb-false (f (emptied p)) (f (emptied q)) h (ap f a)

pool_told : BlockApart (played []) (played pooled) → ⊥
unfolding opened emptied
pool_told = told (λ p. (slot p 0).pool) (played []) (played pooled) refl

chain_told : BlockApart (played []) (played mined) → ⊥
unfolding opened emptied
chain_told = told (λ p. block_of p 0) (played []) (played mined) refl

mined_told : BlockApart (played []) (played mined) → ⊥
unfolding opened emptied
mined_told = told (λ p. p.mined) (played []) (played mined) refl

shared_told : BlockApart (played []) (played shares) → ⊥
unfolding opened emptied
shared_told = told (λ p. shared p 2 contract) (played []) (played shares) refl

marks_told : BlockApart (played []) (played shares) → ⊥
unfolding opened emptied
marks_told = told (λ p. (slot p 2).alice_made) (played []) (played shares) refl

keys_told : BlockApart (played []) (played gives) → ⊥
unfolding opened emptied
keys_told = told (λ p. keys p bob) (played []) (played gives) refl

-- ---- with the counts
-- lock_A mined and lock_B handed in, or not; then a row of kinds 1 to 3: sig_alice given to Bob, success shared by Alice, a refused give
abbrev dated : List ℕ → Dated
dated j = (dated_run (saswap 3) open3 j).dated

abbrev row : List ℕ
row = gives ++ shares ++ gives

abbrev locked_b : List ℕ
locked_b = mined ++ (4 ∷ 1 ∷ 1 ∷ 2 ∷ [])

row_early : every early (journal_steps row) ≡ true
unfolding opened_dated early early_kind
row_early = refl

abbrev after_row : List ℕ → Dated
after_row j = play_dated (saswap 3) open3 (journal_steps row) (dated j)

-- a position and the same after a hand-in differ in the block alone, their counts are equal, before the row and after it
handed_dated : DatedApart (dated mined) (dated locked_b) × DatedApart (after_row mined) (after_row locked_b)
unfolding opened_dated emptied emptied_dated play_dated
handed_dated = (refl, refl)

-- the row sets a count, that of success, in both
row_counts : (count_of (dated locked_b) success ≡ never) × (count_of (after_row locked_b) success ≡ 1) × (count_of (after_row mined) success ≡ 1)
unfolding opened_dated play_dated
row_counts = (refl, refl, refl)

-- and leaves the block entry of lock_B, which stands in one of them
row_block : ((slot (after_row mined).position 1).block ≡ 0) × ((slot (after_row locked_b).position 1).block ≡ 3)
unfolding opened_dated play_dated
row_block = (refl, refl)

-- the same position with another count is told
counts_told : (d e : Dated) → eqb (count_of (emptied_dated d) 0) (count_of (emptied_dated e) 0) ≡ false → DatedApart d e → ⊥
counts_told d e h a = eqb-false (count_of (emptied_dated d) 0) (count_of (emptied_dated e) 0) h (ap (λ (r : Dated). count_of r 0) a)

abbrev recounted : Dated → Dated
recounted d = record { position = d.position; opened = never ∷ [] }

count_told : DatedApart (dated []) (recounted (dated [])) → ⊥
unfolding opened_dated emptied_dated
count_told = counts_told (dated []) (recounted (dated [])) refl
