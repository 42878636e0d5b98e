-- The table of the SASwap sheet, for every number of blocks per day at once: each rule is one test of all fifteen transactions.
-- Assumes nothing.
use Rattle.laws.proofs.Prelude.{ℕ, ◌<◌, ◌≡◌, refl, Bool, true, false, not, ◌&&◌, ◌||◌, ◌⊎◌, inl, inr, eqb, eqb-true, eq-eqb, arith, either, and_parts, or_parts, all_below}
use Rattle.laws.proofs.Prelude.{all_at, bit}
use Rattle.position.proofs.Rules.{count, parent, opening, signatures, secrets, required, saswap, conflict, alice, bob, is_contract, is_payee, exposed_mask, coin_of, sig_alice}
use Rattle.position.proofs.Rules.{sig_bob, secret_alice, secret_bob, lock_a, lock_b, success, refund1, revoke, refund2, timeout, spend_a, spend_b, spend_success, spend_refund1_bob}
use Rattle.position.proofs.Rules.{spend_refund1_alice, spend_revoke, spend_refund2, spend_timeout}
use Rattle.sheet.proofs.Theorems.{saswap_sizes}
use Rattle.position.proofs.Opened.{opened}

pub fifteen : (d : ℕ) → count (saswap d) ≡ 15
fifteen d = (saswap_sizes d).0

-- a rule: every transaction that passes the first test passes the second
pub rule : (d : ℕ) (if then : ℕ → Bool) → all_below 15 (λ t. not (if t) || then t) ≡ true → (t : ℕ) → t < count (saswap d)
    → if t ≡ true → then t ≡ true
rule d if then r t l h = rw h at (all_at 15 (λ k. not (if k) || then k) r t (rw (fifteen d) at l))

-- one of two, three or four numbers
pub two : (t a b : ℕ) → (eqb t a || eqb t b) ≡ true → (t ≡ a) ⊎ (t ≡ b)
two t a b h = either (or_parts (eqb t a) (eqb t b) h) (λ y. inl (eqb-true t a y)) (λ y. inr (eqb-true t b y))

three : (t a b c : ℕ) → (eqb t a || (eqb t b || eqb t c)) ≡ true → (t ≡ a) ⊎ ((t ≡ b) ⊎ (t ≡ c))
three t a b c h = either (or_parts (eqb t a) (eqb t b || eqb t c) h) (λ y. inl (eqb-true t a y)) (λ y. inr (two t b c y))

four : (t a b c e : ℕ) → (eqb t a || (eqb t b || (eqb t c || eqb t e))) ≡ true → (t ≡ a) ⊎ ((t ≡ b) ⊎ ((t ≡ c) ⊎ (t ≡ e)))
four t a b c e h = either (or_parts (eqb t a) (eqb t b || (eqb t c || eqb t e)) h) (λ y. inl (eqb-true t a y)) (λ y. inr (three t b c e y))

-- what a send or a block exposes: secret_alice with refund_1 and refund_2 alone, secret_bob with success alone, contract transactions all
pub exposes_secret_alice : (d t : ℕ) → t < count (saswap d) → bit (exposed_mask (saswap d) t) secret_alice ≡ true
    → (is_contract (saswap d) t ≡ true) × ((t ≡ refund1) ⊎ (t ≡ refund2))
unfolding opened
exposes_secret_alice d t l h =
    let one : ℕ → Bool = λ k. eqb k refund1 || eqb k refund2 in
    let r = rule d (λ k. bit (exposed_mask (saswap d) k) secret_alice) (λ k. is_contract (saswap d) k && one k) refl t l h in
    let w = and_parts (is_contract (saswap d) t) (one t) r in
    (w.0, two t refund1 refund2 w.1)

pub exposes_secret_bob : (d t : ℕ) → t < count (saswap d) → bit (exposed_mask (saswap d) t) secret_bob ≡ true
    → (is_contract (saswap d) t ≡ true) × (t ≡ success)
unfolding opened
exposes_secret_bob d t l h =
    let r = rule d (λ k. bit (exposed_mask (saswap d) k) secret_bob) (λ k. is_contract (saswap d) k && eqb k success) refl t l h in
    let w = and_parts (is_contract (saswap d) t) (eqb t success) r in
    (w.0, eqb-true t success w.1)

-- the rivals of success, of refund_1, and of refund_2
pub rivals_success : (d t : ℕ) → t < count (saswap d) → conflict (saswap d) t success ≡ true
    → (t ≡ success) ⊎ ((t ≡ refund1) ⊎ ((t ≡ revoke) ⊎ (t ≡ spend_a)))
unfolding opened
rivals_success d t l h =
    four t success refund1 revoke spend_a
    (rule d (λ k. conflict (saswap d) k success) (λ k. eqb k success || (eqb k refund1 || (eqb k revoke || eqb k spend_a))) refl t l h)

pub rivals_refund1 : (d t : ℕ) → t < count (saswap d) → conflict (saswap d) t refund1 ≡ true
    → (t ≡ success) ⊎ ((t ≡ refund1) ⊎ ((t ≡ revoke) ⊎ (t ≡ spend_a)))
unfolding opened
rivals_refund1 d t l h =
    four t success refund1 revoke spend_a
    (rule d (λ k. conflict (saswap d) k refund1) (λ k. eqb k success || (eqb k refund1 || (eqb k revoke || eqb k spend_a))) refl t l h)

pub rivals_refund2 : (d t : ℕ) → t < count (saswap d) → conflict (saswap d) t refund2 ≡ true
    → (t ≡ refund2) ⊎ ((t ≡ timeout) ⊎ (t ≡ spend_revoke))
unfolding opened
rivals_refund2 d t l h =
    three t refund2 timeout spend_revoke
    (rule d (λ k. conflict (saswap d) k refund2) (λ k. eqb k refund2 || (eqb k timeout || eqb k spend_revoke)) refl t l h)

-- a transaction that pays with sig_alice and sig_bob
abbrev pub BothSign : ℕ → Type 0
BothSign t = (t ≡ spend_a) ⊎ ((t ≡ spend_revoke) ⊎ (t ≡ spend_refund1_bob))

pub record Signed (d t : ℕ) : Type 0 where
  pub later : timeout < t
  pub pays : is_contract (saswap d) t ≡ false
  pub needs_alice : bit (required (saswap d) t) sig_alice ≡ true
  pub needs_bob : bit (required (saswap d) t) sig_bob ≡ true

pub both_sign : (d t : ℕ) → BothSign t → Signed d t
unfolding opened
both_sign d t w =
    either w
    (λ e. rw e (record { later = omega arith; pays = refl; needs_alice = refl; needs_bob = refl }))
    (λ y.
    either y
    (λ e. rw e (record { later = omega arith; pays = refl; needs_alice = refl; needs_bob = refl }))
    (λ e. rw e (record { later = omega arith; pays = refl; needs_alice = refl; needs_bob = refl })))

-- "secrets 12": sig_alice and sig_bob are none
pub sig_alice_plain : (d : ℕ) → bit (secrets (saswap d)) sig_alice ≡ false
unfolding opened
sig_alice_plain d = refl

pub sig_bob_plain : (d : ℕ) → bit (secrets (saswap d)) sig_bob ≡ false
unfolding opened
sig_bob_plain d = refl

-- column "needs"
pub record Needs (d : ℕ) : Type 0 where
  pub four : signatures (saswap d) ≡ 4
  pub success_sig_alice : bit (required (saswap d) success) sig_alice ≡ true
  pub success_secret_bob : bit (required (saswap d) success) secret_bob ≡ true
  pub refund1_secret_alice : bit (required (saswap d) refund1) secret_alice ≡ true
  pub refund2_secret_alice : bit (required (saswap d) refund2) secret_alice ≡ true
  pub spend_b_secret_alice : bit (required (saswap d) spend_b) secret_alice ≡ true
  pub spend_b_secret_bob : bit (required (saswap d) spend_b) secret_bob ≡ true

pub needs : (d : ℕ) → Needs d
unfolding opened
needs d =
    record {
      four = refl;
      success_sig_alice = refl;
      success_secret_bob = refl;
      refund1_secret_alice = refl;
      refund2_secret_alice = refl;
      spend_b_secret_alice = refl;
      spend_b_secret_bob = refl;
    }

-- column "payees", 0 or not
pub contracts : (d : ℕ)
    → (is_contract (saswap d) success ≡ true) × (is_contract (saswap d) refund1 ≡ true) × (is_contract (saswap d) refund2 ≡ true)
unfolding opened
contracts d = (refl, refl, refl)

pub spend_b_pays : (d : ℕ) → is_contract (saswap d) spend_b ≡ false
unfolding opened
spend_b_pays d = refl

-- column "parent"
pub parents : (d : ℕ) → (parent (saswap d) success ≡ lock_a) × (parent (saswap d) refund1 ≡ lock_a) × (parent (saswap d) refund2 ≡ revoke)
unfolding opened
parents d = (refl, refl, refl)

-- revoke and its rivals
pub revoke_rivals : (d : ℕ)
    → (conflict (saswap d) success revoke ≡ true)
    × (conflict (saswap d) spend_a revoke ≡ true)
    × (conflict (saswap d) refund1 revoke ≡ true)
    × (conflict (saswap d) revoke refund1 ≡ true)
unfolding opened
revoke_rivals d = (refl, refl, refl, refl)

-- the ways in which each coin pays each party
abbrev both_signs : ℕ → Bool
both_signs t = eqb t spend_a || (eqb t spend_revoke || eqb t spend_refund1_bob)

paying : ℕ → ℕ → ℕ → ℕ → Bool
paying d coin party t = eqb (coin_of (saswap d) t) coin && (not (is_contract (saswap d) t) && is_payee (saswap d) t party)

pub record Pays (d coin party t : ℕ) : Type 0 where
  pub low : t < count (saswap d)
  pub of_coin : coin_of (saswap d) t ≡ coin
  pub pays : is_contract (saswap d) t ≡ false
  pub payee : is_payee (saswap d) t party ≡ true

pays_so : (d coin party t : ℕ) → Pays d coin party t → paying d coin party t ≡ true
unfolding paying
pays_so d coin party t w = rw (w.of_coin, w.pays, w.payee, eq-eqb coin coin refl)

pub pays_alice : (d t : ℕ) → Pays d lock_a alice t → BothSign t ⊎ ((t ≡ spend_refund1_alice) ⊎ (t ≡ spend_refund2))
unfolding opened paying
pays_alice d t w =
    let one : ℕ → Bool = λ k. eqb k spend_refund1_alice || eqb k spend_refund2 in
    let r = rule d (paying d lock_a alice) (λ k. both_signs k || one k) refl t w.low (pays_so d lock_a alice t w) in
    either (or_parts (both_signs t) (one t) r)
    (λ y. inl (three t spend_a spend_revoke spend_refund1_bob y))
    (λ y. inr (two t spend_refund1_alice spend_refund2 y))

pub pays_bob_lem : (d t : ℕ) → Pays d lock_a bob t → BothSign t ⊎ ((t ≡ spend_success) ⊎ (t ≡ spend_timeout))
unfolding opened paying
pays_bob_lem d t w =
    let one : ℕ → Bool = λ k. eqb k spend_success || eqb k spend_timeout in
    let r = rule d (paying d lock_a bob) (λ k. both_signs k || one k) refl t w.low (pays_so d lock_a bob t w) in
    either (or_parts (both_signs t) (one t) r)
    (λ y. inl (three t spend_a spend_revoke spend_refund1_bob y))
    (λ y. inr (two t spend_success spend_timeout y))

pub pays_from_B : (d t : ℕ) → t < count (saswap d) → coin_of (saswap d) t ≡ lock_b → is_contract (saswap d) t ≡ false → t ≡ spend_b
unfolding opened paying
pays_from_B d t l c n =
    eqb-true t spend_b
    (rule d (λ k. eqb (coin_of (saswap d) k) lock_b && not (is_contract (saswap d) k)) (λ k. eqb k spend_b) refl t l (by c n))
  where
    by : coin_of (saswap d) t ≡ lock_b → is_contract (saswap d) t ≡ false
        → (eqb (coin_of (saswap d) t) lock_b && not (is_contract (saswap d) t)) ≡ true
    by e f = rw (e, f)

-- a transaction's parent, by number
pub record Below (d t above : ℕ) : Type 0 where
  pub low : t < count (saswap d)
  pub not_opening : opening (saswap d) t ≡ false
  pub is : parent (saswap d) t ≡ above

pub below : (d : ℕ)
    → Below d spend_refund1_alice refund1
    × Below d spend_refund2 refund2
    × Below d spend_success success
    × Below d spend_timeout timeout
    × Below d timeout revoke
unfolding opened
below d = (
  record { low = omega arith; not_opening = refl; is = refl },
  record { low = omega arith; not_opening = refl; is = refl },
  record { low = omega arith; not_opening = refl; is = refl },
  record { low = omega arith; not_opening = refl; is = refl },
  record { low = omega arith; not_opening = refl; is = refl },
)

pub timeout_rival : (d : ℕ) → conflict (saswap d) timeout refund2 ≡ true
unfolding opened
timeout_rival d = refl
