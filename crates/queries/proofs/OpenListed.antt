-- An open step by its numbers: what its fields ask for and the tests of its kind.
-- Assumes nothing.
use Rattle.laws.proofs.Prelude.{ℕ, ◌<◌, ◌≡◌, refl, sym, ◌∙◌, true, false, ◌&&◌, ◌||◌, and-false, List, eqb, leb, eqb-true, eqb-false, ne_eqb, lt-ltb, arith, or-false}
use Rattle.laws.proofs.Prelude.{split, clash, and_parts, no_bit}
use Rattle.position.proofs.Rules.{count, signatures, place, parent, payees, accepted, Slot, Destination, Alice, Bob, Contract, Carol, Step, Share, Give, SendToPool}
use Rattle.position.proofs.Rules.{HandToMiner, Include, Bump, miner, contract, destinations, destination_number, is_party, is_payee, is_contract, Some, no_transaction}
use Rattle.position.proofs.Rules.{sends_to, shares_to, is_other, first_share_fields, fields_right, of_kind, spelled, range_checked, decode, Context, share_new_in, refusal_in}
use Rattle.position.proofs.Rules.{party_may, may_stand, gives_in, slot, block_of, Fit}
use Rattle.position.specs.declared.Position.{Position}
use Rattle.sheet.proofs.Parties.{party_not_miner, party_miner}
use Rattle.readings.specs.Forms.Context.{is_open_in, goes_to, refusal_as}
use Rattle.queries.specs.Forms.OpenSets.{is_open_step, context_of}
use Rattle.queries.proofs.OpenSteps.{open_seen}

-- ---- where a transaction may go
module _ (s : List ℕ) (t d : ℕ) where
  -- a contract transaction has no payee
  no_payee : (party : ℕ) → is_contract s t ≡ true → is_payee s t party ≡ false
  unfolding is_contract is_payee
  no_payee party h = rw (eqb-true (payees s t) 0 h, no_bit (place party)) (and-false (is_party s party))

  -- a payee is a party
  payee_party : (party : ℕ) → (is_party s party && is_payee s t party) ≡ is_payee s t party
  unfolding is_payee
  payee_party party = split (is_party s party) (λ y. rw y) (λ y. rw y)

  pub shares_goes : shares_to s t d ≡ goes_to s t d
  unfolding shares_to goes_to
  shares_goes =
      split (eqb d contract)
      (λ e.
      let z : is_party s d ≡ false = rw (eqb-true d contract e) (party_miner s) in
      split (is_contract s t) (λ c. rw (e, c)) (λ c. rw (e, c, z)))
      (λ e. split (is_contract s t) (λ c. rw (e, c, no_payee d c)) (λ c. rw (e, c, payee_party d)))

  pub sends_goes : (party : ℕ) → is_party s party ≡ true → (eqb d contract || eqb d party) ≡ true → sends_to s party t d ≡ goes_to s t d
  unfolding sends_to goes_to
  sends_goes party h o =
      split (eqb d contract)
      (λ e.
      let z : eqb d party ≡ false = ne_eqb d party (λ q. eqb-false party miner (party_not_miner s party h) (sym q ∙ eqb-true d contract e)) in
      split (is_contract s t) (λ c. rw (e, c)) (λ c. rw (e, c, z)))
      (λ e.
      let y : eqb d party ≡ true = rw e at o in
      let q : d ≡ party = eqb-true d party y in
      split (is_contract s t) (λ c. rw (e, c, no_payee d c)) (λ c. rw (e, c, y, q)))

-- the destination with a number
pub destination_at : (d : ℕ) → d < destinations → (to : Destination) × (destination_number to ≡ d)
unfolding destination_number
destination_at d l =
    split (eqb d 0)
    (λ e. (Alice, sym (eqb-true d 0 e)))
    (λ e.
    split (eqb d 1)
    (λ f. (Bob, sym (eqb-true d 1 f)))
    (λ f.
    split (eqb d 2)
    (λ g. (Contract, sym (eqb-true d 2 g)))
    (λ g. (Carol, omega (arith, l, eqb-false d 0 e, eqb-false d 1 f, eqb-false d 2 g)))))

-- ---- a step of a kind: right fields, and no test fails
module _ (s u : List ℕ) (p : Position) (fit : Fit s u) (a t : ℕ) (x : Slot) (since : ℕ) where
  spelled_to : (k : ℕ) (to : Destination) → spelled k a t (destination_number to) ≡ of_kind k a t to
  unfolding spelled destination_number
  spelled_to k Alice = refl
  spelled_to k Bob = refl
  spelled_to k Contract = refl
  spelled_to k Carol = refl

  checked_open : (g : Context) (y : Step) → is_open_in s u g x since (range_checked s u (Some y)) ≡ (fields_right s u y && eqb (refusal_in s u g x since y) accepted)
  unfolding range_checked is_open_in
  checked_open g y = split (fields_right s u y) (λ e. rw e) (λ e. rw e)

  pub kind_open : (k : ℕ) (to : Destination) (y : Step) → ((k ≡ 2 → ⊥) → t < count s → (x ≡ slot p t) × (since ≡ block_of p (parent s t)))
      → of_kind k a t to ≡ Some y
      → is_open_step s u p k a t (destination_number to) ≡ (fields_right s u y && eqb (refusal_in s u (context_of s u p a) x since y) accepted)
  unfolding decode
  kind_open k to y place e =
      sym (open_seen s u p fit k a t (destination_number to) x since place)
      ∙ rw (spelled_to k to, e) (checked_open (context_of s u p a) y)

  -- kind 2
  pub give_open : (d : ℕ) → d < destinations → is_party s a ≡ true → is_other s a d ≡ true → t < signatures s → is_open_step s u p 2 a t d ≡ gives_in (context_of s u p a) a t d
  unfolding gives_in refusal_in fields_right of_kind
  give_open d l h o i =
      let w = destination_at d l in
      let q : destination_number w.0 ≡ d = w.1 in
      rw (q, h, lt-ltb t (signatures s) i, o) at (kind_open 2 w.0 (Give a t w.0) (λ r. absurd (r refl)) refl)

  -- the others but 6, on a transaction of the sheet
  module _ (place : t < count s → (x ≡ slot p t) × (since ≡ block_of p (parent s t))) (low : t < count s) where
    not_last : eqb t no_transaction ≡ false
    not_last = ne_eqb t no_transaction (λ e. omega (arith, e, low, fit.checked.sized.few))

    share_open : (d : ℕ) → d < destinations → is_party s a ≡ true → is_open_step s u p 1 a t d ≡ (goes_to s t d && eqb (refusal_as s u (context_of s u p a) x since 1 a t d) accepted)
    unfolding refusal_as refusal_in share_new_in fields_right first_share_fields of_kind
    share_open d l h =
        let w = destination_at d l in
        let q : destination_number w.0 ≡ d = w.1 in
        rw (q, h, lt-ltb t (count s) low, not_last, or-false (shares_to s t d), shares_goes s t d)
        at (kind_open 1 w.0 (Share a t w.0) (λ r. place) refl)

    module _ (d : ℕ) (l : d < destinations) (h : is_party s a ≡ true) (o : (eqb d contract || eqb d a) ≡ true) where
      pool_open : is_open_step s u p 3 a t d ≡ (goes_to s t d && eqb (refusal_as s u (context_of s u p a) x since 3 a t d) accepted)
      unfolding refusal_as refusal_in fields_right of_kind
      pool_open =
          let w = destination_at d l in
          let q : destination_number w.0 ≡ d = w.1 in
          rw (q, h, lt-ltb t (count s) low, sends_goes s t d a h o) at (kind_open 3 w.0 (SendToPool a t w.0) (λ r. place) refl)

      miner_open : is_open_step s u p 4 a t d ≡ (goes_to s t d && eqb (refusal_as s u (context_of s u p a) x since 4 a t d) accepted)
      unfolding refusal_as refusal_in fields_right of_kind
      miner_open =
          let w = destination_at d l in
          let q : destination_number w.0 ≡ d = w.1 in
          rw (q, h, lt-ltb t (count s) low, sends_goes s t d a h o) at (kind_open 4 w.0 (HandToMiner a t w.0) (λ r. place) refl)

    module _ (h : eqb a miner ≡ true) where
      include_open : is_open_step s u p 5 a t 2 ≡ eqb (refusal_as s u (context_of s u p a) x since 5 a t 2) accepted
      unfolding refusal_as refusal_in fields_right of_kind destination_number
      include_open = rw (h, lt-ltb t (count s) low) at (kind_open 5 Contract (Include a t Contract) (λ r. place) refl)

      bump_open : is_open_step s u p 7 a t 2 ≡ eqb (refusal_as s u (context_of s u p a) x since 7 a t 2) accepted
      unfolding refusal_as refusal_in fields_right of_kind destination_number
      bump_open = rw (h, lt-ltb t (count s) low) at (kind_open 7 Contract (Bump a t Contract) (λ r. place) refl)

    -- where some step of the kind may stand
    pub listed_open : (k d : ℕ) → d < destinations → may_stand s k a d ≡ true → (k ≡ 2 → ⊥)
        → is_open_step s u p k a t d ≡ ((leb 5 k || goes_to s t d) && eqb (refusal_as s u (context_of s u p a) x since k a t d) accepted)
    unfolding may_stand party_may
    listed_open k d l m other =
        split (is_party s a)
        (λ h.
        split (eqb k 1)
        (λ e. rw (eqb-true k 1 e) (share_open d l h))
        (λ e.
        split (eqb k 2)
        (λ f. absurd (other (eqb-true k 2 f)))
        (λ f.
        let w = and_parts (eqb k 3 || eqb k 4) _ (rw (h, e, f) at m) in
        split (eqb k 3)
        (λ q. rw (eqb-true k 3 q) (pool_open d l h w.1))
        (λ q. let z : eqb k 4 ≡ true = rw q at w.0 in rw (eqb-true k 4 z) (miner_open d l h w.1)))))
        (λ h.
        let w = and_parts (eqb a miner) _ (rw h at m) in
        let v = and_parts (eqb k 5 || eqb k 7) _ w.1 in
        split (eqb k 5)
        (λ q. rw (eqb-true k 5 q, eqb-true d contract v.1) (include_open w.0))
        (λ q. let z : eqb k 7 ≡ true = rw q at v.0 in rw (eqb-true k 7 z, eqb-true d contract v.1) (bump_open w.0)))

-- a give that may stand is one to another party
pub give_stands : (s : List ℕ) (a d : ℕ) → may_stand s 2 a d ≡ true → (is_party s a ≡ true) × (is_other s a d ≡ true)
unfolding may_stand party_may
give_stands s a d m =
    split (is_party s a)
    (λ h. (h, rw h at m))
    (λ h. let z : (eqb a miner && false) ≡ true = rw h at m in clash z (and-false (eqb a miner)))
