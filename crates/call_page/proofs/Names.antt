-- Which text stands for a payee, for a height, and for a column of the header or of a transaction.
-- Assumes nothing.
use Rattle.laws.proofs.Prelude.{ℕ, suc, ◌-◌, ◌<◌, ◌≡◌, ap, List, [], get_or, eq-eqb, ne_eqb, arith}
use Rattle.position.proofs.Rules.{never, alice, bob, carol, contract}
use Rattle.call_page.specs.Line.{digits}
use Rattle.printed.specs.declared.Line.{Line}
use Rattle.call_page.specs.Forms.Cell.{values}
use Rattle.call_page.specs.Page.{alice_text, bob_text, carol_text, contract_text, dash_text, payee_text, never_text, height_text, header, texts, line_texts}

module _ (payee : ℕ) where
  pub is_alice : payee ≡ alice → alice_text ≡ payee_text payee
  unfolding payee_text
  is_alice e = rw e

  pub is_bob : payee ≡ bob → bob_text ≡ payee_text payee
  unfolding payee_text
  is_bob e = rw e

  pub is_contract_lem : payee ≡ contract → contract_text ≡ payee_text payee
  unfolding payee_text
  is_contract_lem e = rw e

  pub is_carol : payee ≡ carol → carol_text ≡ payee_text payee
  unfolding payee_text
  is_carol e = rw e

  pub is_nobody : {A : Type 0} → (((A × (payee ≡ alice → ⊥)) × (payee ≡ bob → ⊥)) × (payee ≡ contract → ⊥)) × (payee ≡ carol → ⊥)
      → dash_text ≡ payee_text payee
  unfolding payee_text
  is_nobody r =
      rw (ne_eqb payee alice r.0.0.0.1, ne_eqb payee bob r.0.0.1, ne_eqb payee contract r.0.1, ne_eqb payee carol r.1)

module _ (height : ℕ) where
  pub is_never : height ≡ never → never_text ≡ height_text height
  unfolding height_text
  is_never e = rw (eq-eqb height never e)

  pub is_height : (height ≡ never → ⊥) → digits height ≡ height_text height
  unfolding height_text
  is_height h = rw (ne_eqb height never h)

-- line 0 is the header, the others are the transactions'
module _ (shown : ℕ → List ℕ) (i : ℕ) where
  pub is_header : i ≡ 0 → header ≡ line_texts shown i
  unfolding line_texts
  is_header e = rw e

  pub is_row : (i ≡ 0 → ⊥) → texts (shown (i - 1)) ≡ line_texts shown i
  unfolding line_texts
  is_row h = let e : suc (i - 1) ≡ i = omega (arith, h) in ap (λ n. line_texts shown n) e

-- the text of column k of the header, and of a transaction's line
pub is_title : (n : ℕ) {k : ℕ} → k ≡ n → get_or header n [] ≡ get_or header k []
is_title n e = rw e

pub is_value : (t : ℕ) (row : Line) (n k : ℕ) → k ≡ n → get_or (texts (values t row)) n [] ≡ get_or (texts (values t row)) k []
is_value t row n k e = rw e

-- none of the first five columns
pub last : {A : Type 0} (k : ℕ) → k < 6 → ((((A × (k ≡ 0 → ⊥)) × (k ≡ 1 → ⊥)) × (k ≡ 2 → ⊥)) × (k ≡ 3 → ⊥)) × (k ≡ 4 → ⊥) → k ≡ 5
last k h r = omega (arith, r.0.0.0.0.1, r.0.0.0.1, r.0.0.1, r.0.1, r.1)
