-- The bytes of an actor's open steps, written from their sets, are those of the list.
-- Assumes nothing.
use Rattle.laws.proofs.Prelude.{ℕ, zero, suc, ◌+◌, ◌*◌, ◌/◌, ◌%◌, ◌≤◌, ◌<◌, ◌≡◌, refl, sym, ap, ◌∙◌, Bool, true, false, List, [], ◌∷◌, ◌++◌, append_assoc, append-nil}
use Rattle.laws.proofs.Prelude.{eqb, length, get_or, replicate, lt-ltb, le-ltb, arith, eq-or-lt_of_le, le_of_suc-le-suc, ap₂, flat_map, split, either, clash, and_parts}
use Rattle.laws.proofs.Prelude.{rewritten, gather, gather_empty, gather_same, set_bit}
use Rattle.position.proofs.Rules.{accepted, Step, Share, Give, SendToPool, HandToMiner, Include, Mine, Bump, alice, bob, carol, miner, destinations, parties, party_at}
use Rattle.position.proofs.Rules.{Option, Some, None, no_transaction, fields_right, decode, step_bytes, slot_count, step_refusal, actor_at, kinds, if_accepted}
use Rattle.position.specs.declared.Position.{Position}
use Rattle.position.proofs.Rules.{open_at, open_of, actor_steps, open_steps, list_bytes}
use native.Mathlib.Numerals.{add-one}
use Rattle.laws.specs.Gather.{length_flat, flat_append}
use Rattle.sheet.specs.Field.{is_party}
use Rattle.sheet.proofs.Parties.{parties_few, party_none, at_not_miner}
use Rattle.output.specs.Forms.Emitted.{emitted, emitted_at, opens_below, opens_last, below_bytes, last_bytes, kind_bytes, actor_bytes, places}
use Rattle.queries.specs.Forms.OpenSets.{is_open_read, is_open_step, Opens, open_set, below_sets, last_set}
use Rattle.position.proofs.Decoding.{length_step, decodes}

-- ---- lists of lists

-- lists that are empty from m on
gather_past : {A : Type 0} (f : ℕ → List A) (m n : ℕ) → m ≤ n → ((k : ℕ) → m ≤ k → f k ≡ []) → gather n f ≡ gather m f
unfolding gather
gather_past f m zero h e = let z : m ≡ 0 = omega arith in rw z
gather_past f m (suc n) h e =
    either (eq-or-lt_of_le h)
    (λ q. rw q)
    (λ l. let low = le_of_suc-le-suc l in rw (gather_past f m n low e, e n low) (append-nil (gather m f)))

module _ {A B : Type 0} (f : A → List B) where
  pub flat_gather : (n : ℕ) (g : ℕ → List A) → flat_map f (gather n g) ≡ gather n (λ k. flat_map f (g k))
  unfolding gather flat_map
  flat_gather zero g = refl
  flat_gather (suc n) g = flat_append f (gather n g) (g n) ∙ ap (λ r. r ++ flat_map f (g n)) (flat_gather n g)

module _ (s u : List ℕ) (p : Position) where
  -- "4 bytes a step"
  pub list_length : length (list_bytes s u p) ≡ length (open_steps s u p) * 4
  unfolding list_bytes
  list_length = rw (length_flat step_bytes 4 length_step (open_steps s u p)) (omega arith)

  -- ---- one step
  read_bytes : (kind actor t d : ℕ) (y : Option Step) → decode s u kind actor t d ≡ y
      → flat_map step_bytes (if_accepted s u p y) ≡ emitted (is_open_read s u p y) kind actor t d
  unfolding if_accepted is_open_read emitted flat_map
  read_bytes kind actor t d (Some x) e =
      split (eqb (step_refusal s u p x) accepted)
      (λ y. rw (y, (decodes s u kind actor t d x e).bytes))
      (λ y. rw y)
  read_bytes kind actor t d None e = refl

  one_bytes : (kind actor t d : ℕ) → flat_map step_bytes (if_accepted s u p (decode s u kind actor t d)) ≡ emitted (is_open_step s u p kind actor t d) kind actor t d
  unfolding is_open_step
  one_bytes kind actor t d = read_bytes kind actor t d (decode s u kind actor t d) refl

  -- ---- those of a kind and a transaction byte
  at_bytes : (kind actor t : ℕ) (on : ℕ → Bool) → ((d : ℕ) → d < destinations → on d ≡ is_open_step s u p kind actor t d)
      → flat_map step_bytes (open_at s u p actor kind t) ≡ emitted_at on kind actor t
  unfolding open_at emitted_at
  at_bytes kind actor t on h =
      flat_gather step_bytes destinations (λ d. if_accepted s u p (decode s u kind actor t d))
      ∙ gather_same destinations
      (λ d. flat_map step_bytes (if_accepted s u p (decode s u kind actor t d)))
      (λ d. emitted (on d) kind actor t d)
      (λ d l. one_bytes kind actor t d ∙ ap (λ b. emitted b kind actor t d) (sym (h d l)))

  -- ---- those of an actor, from sets of them
  module _ (actor : ℕ) (below : List ℕ) (last : ℕ) (sets : Opens s u p actor below last) where
    below_bytes_lem : (k t : ℕ) → k < kinds → t < slot_count → flat_map step_bytes (open_at s u p actor (k + 1) t) ≡ below_bytes below actor k t
    unfolding below_bytes opens_below
    below_bytes_lem k t l m = at_bytes (k + 1) actor t (opens_below below k t) (λ d h. sets.lower k d t l h m)

    last_bytes_lem : (k : ℕ) → k < kinds → flat_map step_bytes (open_at s u p actor (k + 1) no_transaction) ≡ last_bytes last actor k
    unfolding last_bytes opens_last
    last_bytes_lem k l = at_bytes (k + 1) actor no_transaction (opens_last last k) (λ d h. sets.top k d l h)

    kind_bytes_lem : (k : ℕ) → k < kinds → flat_map step_bytes (open_of s u p actor (k + 1)) ≡ kind_bytes below last actor k
    unfolding open_of kind_bytes
    kind_bytes_lem k l =
        flat_append step_bytes (gather slot_count (open_at s u p actor (k + 1))) (open_at s u p actor (k + 1) no_transaction)
        ∙ ap₂ ◌++◌
        (flat_gather step_bytes slot_count (open_at s u p actor (k + 1))
        ∙ gather_same slot_count (λ t. flat_map step_bytes (open_at s u p actor (k + 1) t)) (below_bytes below actor k) (λ t m. below_bytes_lem k t l m))
        (last_bytes_lem k l)

    pub actor_bytes_lem : flat_map step_bytes (actor_steps s u p actor) ≡ actor_bytes below last actor
    unfolding actor_steps actor_bytes
    actor_bytes_lem =
        flat_gather step_bytes kinds (λ k. open_of s u p actor (k + 1))
        ∙ gather_same kinds (λ k. flat_map step_bytes (open_of s u p actor (k + 1))) (kind_bytes below last actor) kind_bytes_lem

  -- ---- the whole list: the parties', by place, then the miner's. A number that is no party's has no open step
  module _ (a : ℕ) (h : is_party s a ≡ false) (m : eqb a miner ≡ false) where
    never : (y : Step) (k t d : ℕ) → step_bytes y ≡ k ∷ a ∷ t ∷ d ∷ [] → fields_right s u y ≡ true → ⊥
    unfolding step_bytes fields_right
    never (Share b i to) k t d e f = let q : b ≡ a = ap (λ l. get_or l 1 0) e in clash (and_parts (is_party s b) _ f).0 (rw q h)
    never (Give b i to) k t d e f = let q : b ≡ a = ap (λ l. get_or l 1 0) e in clash (and_parts (is_party s b) _ f).0 (rw q h)
    never (SendToPool b i to) k t d e f = let q : b ≡ a = ap (λ l. get_or l 1 0) e in clash (and_parts (is_party s b) _ f).0 (rw q h)
    never (HandToMiner b i to) k t d e f = let q : b ≡ a = ap (λ l. get_or l 1 0) e in clash (and_parts (is_party s b) _ f).0 (rw q h)
    never (Include b i to) k t d e f = let q : b ≡ a = ap (λ l. get_or l 1 0) e in clash (and_parts (eqb b miner) _ f).0 (rw q m)
    never (Mine b i to) k t d e f = let q : b ≡ a = ap (λ l. get_or l 1 0) e in clash (and_parts (eqb b miner) _ f).0 (rw q m)
    never (Bump b i to) k t d e f = let q : b ≡ a = ap (λ l. get_or l 1 0) e in clash (and_parts (eqb b miner) _ f).0 (rw q m)

    none_read : (k t d : ℕ) (y : Option Step) → decode s u k a t d ≡ y → if_accepted s u p y ≡ []
    unfolding if_accepted
    none_read k t d (Some x) e = let w = decodes s u k a t d x e in absurd (never x k t d w.bytes w.fields)
    none_read k t d None e = refl

    none_at : (k t : ℕ) → open_at s u p a k t ≡ []
    unfolding open_at
    none_at k t = gather_empty (λ d. if_accepted s u p (decode s u k a t d)) destinations (λ d. none_read k t d (decode s u k a t d) refl)

    none_of : (k : ℕ) → open_of s u p a k ≡ []
    unfolding open_of
    none_of k = rw (gather_empty (open_at s u p a k) slot_count (none_at k), none_at k no_transaction)

    no_steps : actor_steps s u p a ≡ []
    unfolding actor_steps
    no_steps = gather_empty (λ k. open_of s u p a (k + 1)) kinds (λ k. none_of (k + 1))

  -- the steps of the first n places' parties, of which the sheet has no more
  by_places : (n : ℕ) → parties s ≤ n → open_steps s u p ≡ gather n (λ k. actor_steps s u p (party_at k)) ++ actor_steps s u p miner
  unfolding open_steps actor_at gather
  by_places n h =
      rw (
        add-one,
        le-ltb (parties s) (parties s) (omega arith),
        gather_same (parties s) (λ k. actor_steps s u p (actor_at s k)) (λ k. actor_steps s u p (party_at k)) (λ k l. rw (lt-ltb k (parties s) l)),
        gather_past (λ k. actor_steps s u p (party_at k)) (parties s) n h (λ k l. no_steps (party_at k) (party_none s k l) (at_not_miner k)),
      )

  -- of three: Carol's part is there on every sheet
  pub by_actors : open_steps s u p ≡ actor_steps s u p alice ++ (actor_steps s u p bob ++ (actor_steps s u p carol ++ actor_steps s u p miner))
  unfolding gather party_at
  by_actors =
      by_places 3 (parties_few s)
      ∙ append_assoc (actor_steps s u p alice ++ actor_steps s u p bob) (actor_steps s u p carol) (actor_steps s u p miner)
      ∙ append_assoc (actor_steps s u p alice) (actor_steps s u p bob) (actor_steps s u p carol ++ actor_steps s u p miner)

  pub list_bytes_lem : (b₀ b₁ b₂ b₃ : List ℕ) (l₀ l₁ l₂ l₃ : ℕ) → Opens s u p alice b₀ l₀ → Opens s u p bob b₁ l₁ → Opens s u p carol b₂ l₂ → Opens s u p miner b₃ l₃
      → list_bytes s u p ≡ actor_bytes b₀ l₀ alice ++ (actor_bytes b₁ l₁ bob ++ (actor_bytes b₂ l₂ carol ++ actor_bytes b₃ l₃ miner))
  unfolding list_bytes
  list_bytes_lem b₀ b₁ b₂ b₃ l₀ l₁ l₂ l₃ o₀ o₁ o₂ o₃ =
      ap (flat_map step_bytes) by_actors
      ∙ flat_append step_bytes (actor_steps s u p alice) (actor_steps s u p bob ++ (actor_steps s u p carol ++ actor_steps s u p miner))
      ∙ ap₂ ◌++◌ (actor_bytes_lem alice b₀ l₀ o₀)
      (flat_append step_bytes (actor_steps s u p bob) (actor_steps s u p carol ++ actor_steps s u p miner)
      ∙ ap₂ ◌++◌ (actor_bytes_lem bob b₁ l₁ o₁)
      (flat_append step_bytes (actor_steps s u p carol) (actor_steps s u p miner)
      ∙ ap₂ ◌++◌ (actor_bytes_lem carol b₂ l₂ o₂) (actor_bytes_lem miner b₃ l₃ o₃)))

-- ---- the sets by place
module _ (s u : List ℕ) (p : Position) (actor : ℕ) where
  -- kind k + 1 and destination d at place `place_of k d`
  pub sets_open : Opens s u p actor (below_sets s u p actor) (last_set s u p actor)
  unfolding below_sets open_set last_set
  sets_open =
      record {
        lower = λ k d t l h m.
            let q : (4 * k + d) / 4 ≡ k = omega arith in
            let r : (4 * k + d) % 4 ≡ d = omega arith in
            rw (rewritten places (λ i x. open_set s u p actor (i / 4 + 1) (i % 4)) (replicate places 0) (4 * k + d) 0 (omega arith) (omega arith), q, r)
            (set_bit slot_count (λ i. is_open_step s u p (k + 1) actor i d) (omega arith) t m);
        top = λ k d l h.
            let q : (4 * k + d) / 4 ≡ k = omega arith in
            let r : (4 * k + d) % 4 ≡ d = omega arith in
            set_bit places (λ i. is_open_step s u p (i / 4 + 1) actor no_transaction (i % 4)) (omega arith) (4 * k + d) (omega arith) ∙ rw (q, r);
      }
