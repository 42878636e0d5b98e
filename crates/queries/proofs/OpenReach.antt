-- Which transaction bytes an actor's steps of a kind and a destination can have, and the sets of the open ones.
-- Assumes nothing.
use Rattle.laws.proofs.Prelude.{ℕ, zero, suc, ◌+◌, ◌*◌, ◌/◌, ◌%◌, ◌≤◌, ◌<◌, ◌≡◌, refl, sym, ap, ◌∙◌, Bool, true, false, not, ◌&&◌, ◌||◌, and-false, List, [], ◌∷◌, eqb}
use Rattle.laws.proofs.Prelude.{ltb, get_or, eqb-true, ltb-true, ne_eqb, lt-ltb, le-ltb, not-true, not-false, arith, eq-or-lt_of_le, le_of_suc-le-suc, and-true, split}
use Rattle.laws.proofs.Prelude.{either, clash, and_parts, or_parts, or_right, joined, set_below, set_same}
use Rattle.position.proofs.Rules.{count, signatures, parent, conduct, Contract, Step, Share, Give, SendToPool, HandToMiner, Include, Mine, Bump, empty_slot, miner}
use Rattle.position.proofs.Rules.{contract, destinations, destination_number, is_party, is_contract, Option, Some, None, Context, no_transaction, sends_to, shares_to}
use Rattle.position.proofs.Rules.{first_share_fields, fields_right, of_kind, decode, step_bytes, share_new_in, refusal_in, party_may, may_stand, gives_in, slot_count, slot}
use Rattle.position.specs.declared.Position.{Position}
use Rattle.position.proofs.Rules.{block_of, Fit}
use Rattle.sheet.proofs.Parties.{party_miner}
use Rattle.readings.specs.Forms.Context.{limit, shares_first, mines_in, last_in}
use Rattle.steps.proofs.RightFields.{share_listed, give_listed, pool_listed, miner_listed, include_listed, bump_listed}
use Rattle.output.specs.Forms.Emitted.{places}
use Rattle.queries.specs.Forms.OpenSets.{is_open_read, is_open_step, open_set, below_sets, last_set, open_sets, context_of}
use Rattle.position.proofs.Decoding.{decodes}
use Rattle.queries.proofs.OpenListed.{kind_open, give_open, give_stands}

no_party : (s : List ℕ) (a : ℕ) → a ≡ 2 → is_party s a ≡ false
no_party s a e = rw e (party_miner s)

-- ---- sets

-- a test that fails from n on
pub set_upto : (m n : ℕ) (f : ℕ → Bool) → n ≤ m → ((k : ℕ) → n ≤ k → k < m → f k ≡ false) → set_below m f ≡ set_below n f
unfolding set_below joined
set_upto zero n f l h = let z : n ≡ 0 = omega arith in rw z
set_upto (suc m) n f l h =
    either (eq-or-lt_of_le l)
    (λ e. rw e)
    (λ b. rw (h m (le_of_suc-le-suc b) (omega arith)) (set_upto m n f (le_of_suc-le-suc b) (λ k i j. h k i (omega arith))))

-- ---- a step with right fields and a transaction byte other than 255
module _ (s u : List ℕ) (k a t d : ℕ) (low : t < slot_count) where
  party_reach : (j n : ℕ) → j ≡ k → is_party s a ≡ true → party_may s j a d ≡ true → limit s j ≡ n → t < n → (may_stand s k a d && ltb t (limit s k)) ≡ true
  unfolding may_stand
  party_reach j n e h f m l = rw (← e, h, f, m) (lt-ltb t n l)

  miner_reach : (j : ℕ) → j ≡ k → eqb a miner ≡ true → (eqb j 5 || eqb j 7) ≡ true → eqb d contract ≡ true → limit s j ≡ count s → t < count s
      → (may_stand s k a d && ltb t (limit s k)) ≡ true
  unfolding may_stand
  miner_reach j e h f g m l =
      let other : is_party s a ≡ false = no_party s a (eqb-true a miner h) in
      rw (← e, other, h, f, g, m) (lt-ltb t (count s) l)

  -- what is sent goes to the contract or the sender
  sender_is : sends_to s a t d ≡ true → (eqb d contract || eqb d a) ≡ true
  unfolding sends_to
  sender_is h =
      split (is_contract s t)
      (λ c. let e : eqb d contract ≡ true = rw c at h in rw e)
      (λ c. or_right (eqb d contract) (eqb d a) (and_parts (eqb d a) _ (rw c at h)).0)

  in_reach : (y : Step) → step_bytes y ≡ k ∷ a ∷ t ∷ d ∷ [] → fields_right s u y ≡ true → (may_stand s k a d && ltb t (limit s k)) ≡ true
  unfolding step_bytes fields_right limit party_may
  in_reach (Share b i to) e h =
      let m : b ≡ a = ap (λ l. get_or l 1 0) e in
      let n : i ≡ t = ap (λ l. get_or l 2 0) e in
      let r : fields_right s u (Share a t to) ≡ true = rw (m, n) at h in
      party_reach 1 (count s) (ap (λ l. get_or l 0 0) e) (and_parts (is_party s a) _ r).0 refl refl
      (share_listed s u a t to (Share a t to) refl r (λ z. omega (arith, z, low)))
  in_reach (Give b i to) e h =
      let m : b ≡ a = ap (λ l. get_or l 1 0) e in
      let n : i ≡ t = ap (λ l. get_or l 2 0) e in
      let r : fields_right s u (Give a t to) ≡ true = rw (m, n) at h in
      let q : destination_number to ≡ d = ap (λ l. get_or l 3 0) e in
      let w = and_parts (is_party s a) _ r in
      let v = and_parts (ltb t (signatures s)) _ w.1 in
      party_reach 2 (signatures s) (ap (λ l. get_or l 0 0) e) w.0 (rw q at v.1) refl (ltb-true t (signatures s) v.0)
  in_reach (SendToPool b i to) e h =
      let m : b ≡ a = ap (λ l. get_or l 1 0) e in
      let n : i ≡ t = ap (λ l. get_or l 2 0) e in
      let r : fields_right s u (SendToPool a t to) ≡ true = rw (m, n) at h in
      let q : destination_number to ≡ d = ap (λ l. get_or l 3 0) e in
      let w = and_parts (is_party s a) _ r in
      let v = and_parts (ltb t (count s)) _ w.1 in
      party_reach 3 (count s) (ap (λ l. get_or l 0 0) e) w.0 (sender_is (rw q at v.1)) refl (pool_listed s u a t to (SendToPool a t to) refl r)
  in_reach (HandToMiner b i to) e h =
      let m : b ≡ a = ap (λ l. get_or l 1 0) e in
      let n : i ≡ t = ap (λ l. get_or l 2 0) e in
      let r : fields_right s u (HandToMiner a t to) ≡ true = rw (m, n) at h in
      let q : destination_number to ≡ d = ap (λ l. get_or l 3 0) e in
      let w = and_parts (is_party s a) _ r in
      let v = and_parts (ltb t (count s)) _ w.1 in
      party_reach 4 (count s) (ap (λ l. get_or l 0 0) e) w.0 (sender_is (rw q at v.1)) refl (miner_listed s u a t to (HandToMiner a t to) refl r)
  in_reach (Include b i to) e h =
      let m : b ≡ a = ap (λ l. get_or l 1 0) e in
      let n : i ≡ t = ap (λ l. get_or l 2 0) e in
      let q : destination_number to ≡ d = ap (λ l. get_or l 3 0) e in
      let r : fields_right s u (Include a t to) ≡ true = rw (m, n) at h in
      let w = and_parts (eqb a miner) _ r in
      miner_reach 5 (ap (λ l. get_or l 0 0) e) w.0 refl (rw q at (and_parts (ltb t (count s)) _ w.1).1) refl
      (include_listed s u a t to (Include a t to) refl r)
  in_reach (Mine b i to) e h =
      let n : i ≡ t = ap (λ l. get_or l 2 0) e in
      let z : i ≡ 255 = eqb-true i no_transaction (and_parts (eqb i no_transaction) _ (and_parts (eqb b miner) _ h).1).0 in
      absurd (omega (arith, n, z, low))
  in_reach (Bump b i to) e h =
      let m : b ≡ a = ap (λ l. get_or l 1 0) e in
      let n : i ≡ t = ap (λ l. get_or l 2 0) e in
      let q : destination_number to ≡ d = ap (λ l. get_or l 3 0) e in
      let r : fields_right s u (Bump a t to) ≡ true = rw (m, n) at h in
      let w = and_parts (eqb a miner) _ r in
      miner_reach 7 (ap (λ l. get_or l 0 0) e) w.0 refl (rw q at (and_parts (ltb t (count s)) _ w.1).1) refl
      (bump_listed s u a t to (Bump a t to) refl r)

  read_closed : (p : Position) (y : Option Step) → decode s u k a t d ≡ y → (may_stand s k a d && ltb t (limit s k)) ≡ false → is_open_read s u p y ≡ false
  unfolding is_open_read
  read_closed p (Some y) e h = let w = decodes s u k a t d y e in clash (in_reach y w.bytes w.fields) h
  read_closed p None e h = refl

  -- out of reach, nothing is open
  pub out_closed : (p : Position) → (may_stand s k a d && ltb t (limit s k)) ≡ false → is_open_step s u p k a t d ≡ false
  unfolding is_open_step
  out_closed p h = read_closed p (decode s u k a t d) refl h

-- ---- the set of a kind and a destination, where r is what the code found
module _ (s u : List ℕ) (p : Position) (actor kind d : ℕ) where
  pub set_none : (r : Bool) → r ≡ may_stand s kind actor d → not r ≡ true → 0 ≡ open_set s u p actor kind d
  unfolding open_set set_below
  set_none r e h =
      sym
      (set_upto slot_count 0 (λ t. is_open_step s u p kind actor t d) (omega arith)
      (λ t l m. out_closed s u kind actor t d m p (rw (sym e ∙ not-true r h))))

  -- all below the limit
  set_expiring : limit s kind ≤ 32 → set_below (limit s kind) (λ t. is_open_step s u p kind actor t d) ≡ open_set s u p actor kind d
  unfolding open_set
  set_expiring few =
      sym
      (set_upto slot_count (limit s kind) (λ t. is_open_step s u p kind actor t d) few
      (λ t l m. out_closed s u kind actor t d m p (rw (le-ltb t (limit s kind) l) (and-false (may_stand s kind actor d)))))

  pub set_sheet : (r : ℕ) → count s ≤ 32 → (kind ≡ 2 → ⊥) → r ≡ set_below (count s) (λ t. is_open_step s u p kind actor t d) → r ≡ open_set s u p actor kind d
  unfolding limit
  set_sheet r few other h =
      let n : limit s kind ≡ count s = rw (ne_eqb kind 2 other) in
      h ∙ rw n at (set_expiring (omega (arith, n, few)))

  pub set_given : (r : ℕ) (b : Bool) (g : Context) → Fit s u → signatures s ≤ 8 → g ≡ context_of s u p actor → b ≡ may_stand s kind actor d → not b ≡ false → d < destinations
      → kind ≡ 2 → r ≡ set_below (signatures s) (λ i. gives_in g actor i d) → r ≡ open_set s u p actor kind d
  unfolding limit
  set_given r b g fit few e m f l two h =
      let n : limit s kind ≡ signatures s = rw two in
      let w = give_stands s actor d (rw two at (sym m ∙ not-false b f)) in
      (h ∙ rw e)
      ∙ set_same (signatures s) (λ i. gives_in (context_of s u p actor) actor i d) (λ t. is_open_step s u p kind actor t d)
      (λ i j. rw two (sym (give_open s u p fit actor i empty_slot 0 d l w.0 w.1 j)))
      ∙ rw n at (set_expiring (omega (arith, n, few)))

-- ---- the steps with transaction byte 255

-- a test that at most k passes
pub set_one : (n k : ℕ) (f : ℕ → Bool) → k < n → ((j : ℕ) → j < n → (j ≡ k → ⊥) → f j ≡ false) → set_below n f ≡ joined 0 (f k) k
unfolding set_below
set_one n k f l h =
    set_upto n (suc k) f l (λ j i m. h j m (λ e. omega (arith, e, i)))
    ∙ rw (set_upto k 0 f (omega arith) (λ j i m. h j (omega (arith, m, l)) (λ e. omega (arith, e, m))))

module _ (s u : List ℕ) (p : Position) (fit : Fit s u) (few : signatures s ≤ 8) (k a d : ℕ)
    (first : is_party s a ≡ true → k ≡ 1 → d ≡ 2 → ⊥) (mined : is_party s a ≡ false → k ≡ 6 → d ≡ 2 → ⊥) where
  beyond : (i n : ℕ) → i ≡ 255 → i < n → n ≤ 32 → ⊥
  beyond i n e l m = omega (arith, e, l, m)

  top_never : (y : Step) → step_bytes y ≡ k ∷ a ∷ no_transaction ∷ d ∷ [] → fields_right s u y ≡ true → ⊥
  unfolding step_bytes fields_right first_share_fields
  top_never (Share b i to) e h =
      let m : b ≡ a = ap (λ l. get_or l 1 0) e in
      let n : i ≡ 255 = ap (λ l. get_or l 2 0) e in
      let q : destination_number to ≡ d = ap (λ l. get_or l 3 0) e in
      let w = and_parts (is_party s b) _ h in
      either (or_parts (ltb i (count s) && shares_to s i (destination_number to)) _ w.1)
      (λ y. beyond i (count s) n (ltb-true i (count s) (and_parts (ltb i (count s)) _ y).0) fit.checked.sized.few)
      (λ y.
      let z = and_parts (not (eqb (conduct u) 0)) _ (and_parts (eqb i no_transaction) _ y).1 in
      first (rw m at w.0) (sym (ap (λ l. get_or l 0 0) e)) (sym q ∙ eqb-true (destination_number to) contract z.1))
  top_never (Give b i to) e h = beyond i 8 (ap (λ l. get_or l 2 0) e) (give_listed s u b i to (Give b i to) refl few h) (omega arith)
  top_never (SendToPool b i to) e h = beyond i (count s) (ap (λ l. get_or l 2 0) e) (pool_listed s u b i to (SendToPool b i to) refl h) fit.checked.sized.few
  top_never (HandToMiner b i to) e h = beyond i (count s) (ap (λ l. get_or l 2 0) e) (miner_listed s u b i to (HandToMiner b i to) refl h) fit.checked.sized.few
  top_never (Include b i to) e h = beyond i (count s) (ap (λ l. get_or l 2 0) e) (include_listed s u b i to (Include b i to) refl h) fit.checked.sized.few
  top_never (Mine b i to) e h =
      let m : b ≡ a = ap (λ l. get_or l 1 0) e in
      let q : destination_number to ≡ d = ap (λ l. get_or l 3 0) e in
      let w = and_parts (eqb b miner) _ h in
      mined (no_party s a (sym m ∙ eqb-true b miner w.0)) (sym (ap (λ l. get_or l 0 0) e))
      (sym q ∙ eqb-true (destination_number to) contract (and_parts (eqb i no_transaction) _ w.1).1)
  top_never (Bump b i to) e h = beyond i (count s) (ap (λ l. get_or l 2 0) e) (bump_listed s u b i to (Bump b i to) refl h) fit.checked.sized.few

  top_read : (y : Option Step) → decode s u k a no_transaction d ≡ y → is_open_read s u p y ≡ false
  unfolding is_open_read
  top_read (Some y) e = let w = decodes s u k a no_transaction d y e in absurd (top_never y w.bytes w.fields)
  top_read None e = refl

  top_closed : is_open_step s u p k a no_transaction d ≡ false
  unfolding is_open_step
  top_closed = top_read (decode s u k a no_transaction d) refl

-- a place by its kind and destination
place_of : (i k : ℕ) → i / 4 + 1 ≡ k + 1 → i % 4 ≡ 2 → i ≡ 4 * k + 2
place_of i k e f = omega (arith, e, f)

-- ---- these, and all sets of an actor
module _ (s u : List ℕ) (p : Position) (fit : Fit s u) (few : signatures s ≤ 8) (actor : ℕ) where
  no_slot : {k : ℕ} → (k ≡ 2 → ⊥) → no_transaction < count s → (empty_slot ≡ slot p no_transaction) × (0 ≡ block_of p (parent s no_transaction))
  no_slot z m = absurd (omega (arith, m, fit.checked.sized.few))

  first_open_lem : is_party s actor ≡ true → is_open_step s u p 1 actor no_transaction 2 ≡ shares_first u (context_of s u p actor) actor
  unfolding shares_first refusal_in share_new_in fields_right first_share_fields of_kind destination_number
  first_open_lem h =
      rw (h, le-ltb no_transaction (count s) (omega (arith, fit.checked.sized.few)), and-true (not (eqb (conduct u) 0)))
      at (kind_open s u p fit actor no_transaction empty_slot 0 1 Contract (Share actor no_transaction Contract) no_slot refl)

  mine_open : is_open_step s u p 6 actor no_transaction 2 ≡ mines_in (context_of s u p actor) actor
  unfolding mines_in refusal_in fields_right of_kind destination_number
  mine_open =
      rw (and-true (eqb actor miner))
      at (kind_open s u p fit actor no_transaction empty_slot 0 6 Contract (Mine actor no_transaction Contract) no_slot refl)

  last_is : last_in s u (context_of s u p actor) actor ≡ last_set s u p actor
  unfolding last_in last_set
  last_is =
      split (is_party s actor)
      (λ h.
      rw (h, sym (first_open_lem h))
      (sym
      (set_one places 2 (λ i. is_open_step s u p (i / 4 + 1) actor no_transaction (i % 4)) (omega arith)
      (λ j l z. top_closed s u p fit few (j / 4 + 1) actor (j % 4) (λ g e f. z (place_of j 0 e f)) (λ g e f. clash h g)))))
      (λ h.
      rw (h, sym mine_open)
      (sym
      (set_one places 22 (λ i. is_open_step s u p (i / 4 + 1) actor no_transaction (i % 4)) (omega arith)
      (λ j l z. top_closed s u p fit few (j / 4 + 1) actor (j % 4) (λ g e f. clash g h) (λ g e f. z (place_of j 5 e f))))))

  pub sets_made : (b : List ℕ) (r : ℕ) (g : Context) → g ≡ context_of s u p actor → b ≡ below_sets s u p actor → r ≡ last_in s u g actor
      → record { below = b; last = r } ≡ open_sets s u p actor
  unfolding open_sets
  sets_made b r g e f h = rw (f, (h ∙ rw e) ∙ last_is)
