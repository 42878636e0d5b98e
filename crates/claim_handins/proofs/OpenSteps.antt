-- The open steps of kinds 1, 2 and 3 of a position are those of that whose block is emptied: by party and kind, and in the list's bytes.
-- Assumes nothing.
use Rattle.laws.proofs.Prelude.{ℕ, zero, suc, ◌+◌, ◌≡◌, refl, sym, ap, ◌∙◌, fun_ext, Bool, true, false, List, [], ◌∷◌, ◌++◌, eqb, flat_map, pick, split, gather}
use Rattle.position.proofs.Rules.{accepted, Step, Share, Give, SendToPool, HandToMiner, Include, Mine, Bump, destinations, Option, Some, None, no_transaction, decode}
use Rattle.position.proofs.Rules.{step_bytes, slot_count, step_refusal, actor_at, actors, kinds, if_accepted, open_at, open_of, actor_steps, open_steps, list_bytes}
use Rattle.position.specs.declared.Position.{Position}
use Rattle.laws.specs.Gather.{flat_append}
use Rattle.claim_handins.specs.Early.{early_kind, early_bytes}
use Rattle.claim_handins.specs.Claim.{emptied, Unwatched}
use Rattle.claim_handins.proofs.Refusals.{early_step, refusal_emptied}
use Rattle.claim_handins.proofs.Rows.{read_early}

-- two lists whose elements give the same, end to end
module _ {A B : Type 0} (f : A → List B) where
  append_same : (l l' m m' : List A) → flat_map f l ≡ flat_map f l' → flat_map f m ≡ flat_map f m' → flat_map f (l ++ m) ≡ flat_map f (l' ++ m')
  append_same l l' m m' e h = flat_append f l m ∙ rw (e, h) (sym (flat_append f l' m'))

  gather_same : (g h : ℕ → List A) → ((k : ℕ) → flat_map f (g k) ≡ flat_map f (h k)) → (n : ℕ) → flat_map f (gather n g) ≡ flat_map f (gather n h)
  unfolding gather
  gather_same g h e zero = refl
  gather_same g h e (suc n) = append_same (gather n g) (gather n h) (g n) (h n) (gather_same g h e n) (e n)

-- a step's bytes where its kind is 1, 2 or 3, else none
unfoldable if_early : Step → List ℕ
if_early x = pick (early_step x) (step_bytes x) []

one_more : (x : Step) (rest : List ℕ) → early_bytes (step_bytes x ++ rest) ≡ if_early x ++ early_bytes rest
unfolding early_bytes step_bytes if_early early_step
one_more (Share a t to) rest = refl
one_more (Give a t to) rest = refl
one_more (SendToPool a t to) rest = refl
one_more (HandToMiner a t to) rest = refl
one_more (Include a t to) rest = refl
one_more (Mine a t to) rest = refl
one_more (Bump a t to) rest = refl

early_of : (l : List Step) → early_bytes (flat_map step_bytes l) ≡ flat_map if_early l
unfolding flat_map early_bytes
early_of [] = refl
early_of (x ∷ l) = one_more x (flat_map step_bytes l) ∙ ap (λ r. if_early x ++ r) (early_of l)

late_none : (x : Step) (b : Bool) → early_step x ≡ false → flat_map if_early (pick b (x ∷ []) []) ≡ []
unfolding flat_map if_early
late_none x true e = rw e
late_none x false e = refl

module _ (s u : List ℕ) (w : Unwatched u) (p : Position) where
  -- ---- of a party and a kind
  alone_same : (y : Option Step) → ((x : Step) → y ≡ Some x → early_step x ≡ true) → if_accepted s u p y ≡ if_accepted s u (emptied p) y
  unfolding if_accepted
  alone_same (Some x) e = rw (refusal_emptied s u p w x (e x refl))
  alone_same None e = refl

  at_same : (party k : ℕ) → early_kind k ≡ true → open_at s u p party k ≡ open_at s u (emptied p) party k
  unfolding open_at
  at_same party k h =
      fun_ext (λ t. ap (gather destinations) (fun_ext (λ d. alone_same (decode s u k party t d) (read_early s u k party t d h))))

  pub open_emptied : (party k : ℕ) → early_kind k ≡ true → open_of s u p party k ≡ open_of s u (emptied p) party k
  unfolding open_of
  open_emptied party k h = rw (at_same party k h)

  -- ---- of the whole list
  alone_bytes : (y : Option Step) → flat_map if_early (if_accepted s u p y) ≡ flat_map if_early (if_accepted s u (emptied p) y)
  unfolding if_accepted
  alone_bytes (Some x) =
      split (early_step x)
      (λ e. rw (refusal_emptied s u p w x e))
      (λ e. late_none x (eqb (step_refusal s u p x) accepted) e ∙ sym (late_none x (eqb (step_refusal s u (emptied p) x) accepted) e))
  alone_bytes None = refl

  at_bytes : (party k t : ℕ) → flat_map if_early (open_at s u p party k t) ≡ flat_map if_early (open_at s u (emptied p) party k t)
  unfolding open_at
  at_bytes party k t = gather_same if_early _ _ (λ d. alone_bytes (decode s u k party t d)) destinations

  kind_bytes_lem : (party k : ℕ) → flat_map if_early (open_of s u p party k) ≡ flat_map if_early (open_of s u (emptied p) party k)
  unfolding open_of
  kind_bytes_lem party k =
      append_same if_early _ _ _ _ (gather_same if_early _ _ (at_bytes party k) slot_count) (at_bytes party k no_transaction)

  actor_bytes_lem : (party : ℕ) → flat_map if_early (actor_steps s u p party) ≡ flat_map if_early (actor_steps s u (emptied p) party)
  unfolding actor_steps
  actor_bytes_lem party = gather_same if_early _ _ (λ k. kind_bytes_lem party (k + 1)) kinds

  pub list_emptied : early_bytes (list_bytes s u p) ≡ early_bytes (list_bytes s u (emptied p))
  unfolding list_bytes open_steps
  list_emptied =
      early_of (open_steps s u p) ∙ gather_same if_early _ _ (λ k. actor_bytes_lem (actor_at s k)) (actors s) ∙ sym (early_of (open_steps s u (emptied p)))
