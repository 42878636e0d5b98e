-- The counts once a position is seen, place by place.
-- Assumes nothing.
use Rattle.laws.proofs.Prelude.{ℕ, ◌<◌, ◌≡◌, List, length, get_or, length_rewrite_first, rewritten}
use Rattle.position.proofs.Rules.{count, never}
use Rattle.position.specs.declared.Position.{Position}
use Rattle.dated.specs.Dated.{first_open, noted}

module _ (s u : List ℕ) (p : Position) (counts : List ℕ) where
  pub noted_length : length (noted s u p counts) ≡ length counts
  unfolding noted
  noted_length = length_rewrite_first (count s) (first_open s u p) counts

  -- of a transaction of the sheet
  pub noted_at : (t : ℕ) → t < count s → t < length counts → get_or (noted s u p counts) t never ≡ first_open s u p t (get_or counts t never)
  unfolding noted
  noted_at t l m = rewritten (count s) (first_open s u p) counts t never l m
