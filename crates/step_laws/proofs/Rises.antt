-- The open steps rise by actor, kind, transaction and destination.
-- Assumes nothing.
use Rattle.laws.proofs.Prelude.{ℕ, ◌+◌, ◌<◌, ◌≡◌, refl, Bool, true, List, [], ◌∷◌, eqb, ltb, get_or, lt-ltb, arith, List-as-Memᴰ, List·Memᴰ·not-nil, split, gather}
use Rattle.position.proofs.Rules.{accepted, parties, party_at, Step, miner, destinations, Option, Some, None, slot_count, no_transaction, decode, step_bytes}
use Rattle.position.specs.declared.Position.{Position}
use Rattle.position.proofs.Rules.{step_refusal, FourBytes, actor_at, actors, kinds, if_accepted, open_at, open_of, actor_steps, open_steps, listed_before}
use Rattle.laws.specs.Members.{member_gather, Rising, rising_append, rising_gather}
use Rattle.laws.specs.Order.{lower, lower_here, lower_later}
use Rattle.sheet.proofs.Parties.{place_at, at_not_miner}
use Rattle.position.specs.Open.{rank, list_place}
use Rattle.position.proofs.Decoding.{decodes}
use Rattle.step_laws.proofs.Listed.{IsOpen, alone_is, place_open, kind_open, actor_open, open_gathered}

-- the four bytes of a step
unfoldable pub four_of : Step → FourBytes
four_of x =
    record {
      kind = get_or (step_bytes x) 0 0;
      party = get_or (step_bytes x) 1 0;
      transaction = get_or (step_bytes x) 2 0;
      destination = get_or (step_bytes x) 3 0;
    }

unfoldable pub step_before : List ℕ → Step → Step → Bool
step_before s x y = listed_before s (four_of x) (four_of y)

module _ (s u : List ℕ) (p : Position) where
  place_is : (k a t d : ℕ) (x : Step) → IsOpen s u p k a t d x → list_place s (four_of x) ≡ rank s a ∷ k ∷ t ∷ d ∷ []
  unfolding list_place four_of
  place_is k a t d x o = rw (decodes s u k a t d x o.reads).bytes

  -- two open steps, by where they stand
  before : (k a t d k' a' t' d' : ℕ) (x y : Step) → IsOpen s u p k a t d x → IsOpen s u p k' a' t' d' y
      → lower (rank s a ∷ k ∷ t ∷ d ∷ []) (rank s a' ∷ k' ∷ t' ∷ d' ∷ []) ≡ true → step_before s x y ≡ true
  unfolding step_before listed_before
  before k a t d k' a' t' d' x y o q h = rw (place_is k a t d x o, place_is k' a' t' d' y q) h

  alone_rises : (y : Option Step) → Rising (step_before s) (if_accepted s u p y)
  unfolding if_accepted Rising
  alone_rises (Some x) =
      split (eqb (step_refusal s u p x) accepted) (λ e. rw e ((λ y m. absurd (List·Memᴰ·not-nil m)), tt)) (λ e. rw e tt)
  alone_rises None = tt

  at_rises : (k a t : ℕ) → Rising (step_before s) (open_at s u p a k t)
  unfolding open_at
  at_rises k a t =
      rising_gather (step_before s) destinations (λ d. if_accepted s u p (decode s u k a t d))
      (λ d l. alone_rises (decode s u k a t d))
      (λ d e l m x y f g.
      before k a t d k a t e x y (alone_is s u p k a t d x f) (alone_is s u p k a t e y g)
      (lower_later (rank s a) _ _ (lower_later k _ _ (lower_later t _ _ (lower_here d e [] [] l)))))

  -- two steps of one kind, by transaction
  kind_before : (k a t t' : ℕ) → t < t' → (x y : Step) → List-as-Memᴰ x (open_at s u p a k t) → List-as-Memᴰ y (open_at s u p a k t') → step_before s x y ≡ true
  kind_before k a t t' l x y f g =
      let o = place_open s u p k a t x f in
      let q = place_open s u p k a t' y g in
      before k a t o.0 k a t' q.0 x y o.1 q.1 (lower_later (rank s a) _ _ (lower_later k _ _ (lower_here t t' _ _ l)))

  of_rises : (k a : ℕ) → Rising (step_before s) (open_of s u p a k)
  unfolding open_of
  of_rises k a =
      rising_append (step_before s) (gather slot_count (open_at s u p a k)) (open_at s u p a k no_transaction)
      (rising_gather (step_before s) slot_count (open_at s u p a k) (λ t l. at_rises k a t) (λ t t' l m. kind_before k a t t' l))
      (at_rises k a no_transaction)
      (λ x y f g. let w = member_gather slot_count (open_at s u p a k) f in kind_before k a w.0 no_transaction (omega (arith, w.1)) x y w.2 g)

  actor_rises : (a : ℕ) → Rising (step_before s) (actor_steps s u p a)
  unfolding actor_steps
  actor_rises a =
      rising_gather (step_before s) kinds (λ j. open_of s u p a (j + 1))
      (λ j l. of_rises (j + 1) a)
      (λ i j l m x y f g.
      let o = kind_open s u p (i + 1) a x f in
      let q = kind_open s u p (j + 1) a y g in
      before (i + 1) a o.0 o.1 (j + 1) a q.0 q.1 x y o.2 q.2 (lower_later (rank s a) _ _ (lower_here (i + 1) (j + 1) _ _ (omega arith))))

  -- the actors rise by rank
  rank_party : (k : ℕ) → rank s (party_at k) ≡ k
  unfolding rank
  rank_party k = rw (at_not_miner k) (place_at k)

  rank_miner : rank s miner ≡ parties s
  unfolding rank
  rank_miner = refl

  rank_rises : (i j : ℕ) → i < j → j < actors s → rank s (actor_at s i) < rank s (actor_at s j)
  unfolding actor_at
  rank_rises i j l m =
      rw (lt-ltb i (parties s) (omega arith), rank_party i)
      (split (ltb j (parties s))
      (λ y. rw (y, rank_party j) l)
      (λ y. rw (y, rank_miner) (omega arith)))

  pub open_rises : Rising (step_before s) (open_steps s u p)
  open_rises =
      rw (open_gathered s u p)
      (rising_gather (step_before s) (actors s) (λ k. actor_steps s u p (actor_at s k))
      (λ k l. actor_rises (actor_at s k))
      (λ i j l m x y f g.
      let a = actor_at s i in
      let b = actor_at s j in
      let o = actor_open s u p a x f in
      let q = actor_open s u p b y g in
      before o.0 a o.1 o.2 q.0 b q.1 q.2 x y o.3 q.3 (lower_here (rank s a) (rank s b) _ _ (rank_rises i j l m))))
