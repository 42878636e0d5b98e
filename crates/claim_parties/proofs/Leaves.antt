-- What is worked out from a sheet's transactions is the same on two sheets with the same transactions.
-- Assumes nothing.
use Rattle.laws.proofs.Prelude.{ℕ, ◌≡◌, ap, fun_ext, false, ◌||◌, List, climb}
use Rattle.position.proofs.Rules.{opening, lock_blocks, lock_height, conflict, conflict_in, no_conflict, is_self_or_ancestor, meets_conflict, meets_other, has_parent, deadline}
use Rattle.position.proofs.Rules.{shared_secrets, signed, share_mask, exposed_mask}
use Rattle.slots.specs.Conflict.{other_conflict_in}
use Rattle.slots.specs.Ancestry.{in_ancestry}
use Rattle.claim_parties.specs.Renaming.{SameTransactions}

module _ (s w : List ℕ) (a : SameTransactions s w) where
  pub opening_same : opening w ≡ opening s
  unfolding opening
  opening_same = fun_ext (λ x. rw (a.parents x))

  conflict_same : conflict w ≡ conflict s
  unfolding conflict
  conflict_same = fun_ext (λ x. fun_ext (λ y. rw (a.parents x, a.parents y, opening_same)))

  conflict_in_lem : conflict_in w ≡ conflict_in s
  unfolding conflict_in
  conflict_in_lem = fun_ext (λ x. fun_ext (λ y. rw (a.counts, conflict_same)))

  pub no_conflict_lem : no_conflict w ≡ no_conflict s
  unfolding no_conflict
  no_conflict_lem = fun_ext (λ x. fun_ext (λ y. rw conflict_in_lem))

  ancestry_same : in_ancestry w ≡ in_ancestry s
  unfolding in_ancestry
  ancestry_same =
      fun_ext (λ x. fun_ext (λ y. ap (λ (e : ℕ → ℕ). climb e (λ k above. x k || above) false y) (fun_ext (λ t. a.parents t))))

  pub line_same : is_self_or_ancestor w ≡ is_self_or_ancestor s
  unfolding is_self_or_ancestor
  line_same = fun_ext (λ x. fun_ext (λ y. rw ancestry_same))

  pub meets_conflict_lem : meets_conflict w ≡ meets_conflict s
  unfolding meets_conflict
  meets_conflict_lem = fun_ext (λ x. fun_ext (λ y. rw (ancestry_same, conflict_in_lem)))

  other_in : other_conflict_in w ≡ other_conflict_in s
  unfolding other_conflict_in
  other_in = fun_ext (λ x. fun_ext (λ y. rw conflict_in_lem))

  pub meets_other_lem : meets_other w ≡ meets_other s
  unfolding meets_other
  meets_other_lem = fun_ext (λ x. fun_ext (λ y. rw (ancestry_same, other_in)))

  pub has_parent_lem : has_parent w ≡ has_parent s
  unfolding has_parent
  has_parent_lem = fun_ext (λ x. fun_ext (λ y. rw (a.parents y, opening_same)))

  pub lock_height_lem : lock_height w ≡ lock_height s
  unfolding lock_height lock_blocks
  lock_height_lem = fun_ext (λ x. fun_ext (λ y. fun_ext (λ z. rw (a.parents z, a.locks))))

  pub deadline_same : deadline w ≡ deadline s
  unfolding deadline
  deadline_same = fun_ext (λ x. fun_ext (λ y. fun_ext (λ z. rw (a.counts, conflict_same, lock_height_lem))))

  pub shared_secrets_lem : shared_secrets w ≡ shared_secrets s
  unfolding shared_secrets
  shared_secrets_lem = fun_ext (λ x. rw (a.counts, a.secrets_same))

  pub signed_same : signed w ≡ signed s
  unfolding signed
  signed_same = fun_ext (λ x. fun_ext (λ y. rw (a.signatures_same, a.needs y)))

  pub share_mask_lem : share_mask w ≡ share_mask s
  unfolding share_mask
  share_mask_lem = fun_ext (λ x. fun_ext (λ y. rw (a.secrets_same, a.needs y)))

  pub exposed_mask_lem : exposed_mask w ≡ exposed_mask s
  unfolding exposed_mask
  exposed_mask_lem = fun_ext (λ x. rw (a.veils x, a.needs x))
