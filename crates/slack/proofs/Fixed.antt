-- A transaction whose parent is confirmed, or none: the parts of that test, and that it stays so.
-- Assumes nothing.
use Rattle.laws.proofs.Prelude.{ℕ, ◌<◌, ◌≡◌, true, false, List, split, or_right, or_neither}
use Rattle.position.proofs.Rules.{count, parent, opening, Checked, has_parent, block_of, is_confirmed}
use Rattle.position.specs.declared.Position.{Position}
use Rattle.slots.proofs.Parents.{parent_below}
use Rattle.slack.specs.Beaten.{fixed}

module _ (s : List ℕ) (p : Position) (t : ℕ) where
  pub open_parts : fixed s p t ≡ false → (opening s t ≡ false) × (is_confirmed p (parent s t) ≡ false)
  unfolding fixed has_parent
  open_parts h = or_neither (opening s t) (is_confirmed p (parent s t)) h

  pub fixed_from : is_confirmed p (parent s t) ≡ true → fixed s p t ≡ true
  unfolding fixed has_parent
  fixed_from h = or_right (opening s t) (is_confirmed p (parent s t)) h

pub same_block : (p q : Position) (t : ℕ) → block_of q t ≡ block_of p t → is_confirmed p t ≡ true → is_confirmed q t ≡ true
unfolding is_confirmed
same_block p q t e h = rw e h

pub fixed_stays : (s : List ℕ) → Checked s → (p q : Position) → ((t : ℕ) → t < count s → is_confirmed p t ≡ true → is_confirmed q t ≡ true)
    → (t : ℕ) → t < count s → fixed s p t ≡ true → fixed s q t ≡ true
unfolding fixed has_parent
fixed_stays s ok p q stays t l h =
    split (opening s t)
    (λ y. rw y)
    (λ y. fixed_from s q t (stays (parent s t) (parent_below ok t l y) (rw y at h)))
