-- A line with any values that fit, read back.
-- Assumes nothing.
use Rattle.laws.proofs.Prelude.{ℕ, zero, suc, ◌^◌, ◌≤◌, ◌<◌, ◌≡◌, ap, ◌∙◌, [], ◌∷◌, ◌++◌, ◌⊎◌, lit<, length, get_or, arith, sum_below, bytes_of}
use Rattle.position.proofs.Rules.{unconfirmed}
use Rattle.call_page.specs.Line.{widths, line}
use Rattle.call_page.specs.Page.{texts}
use Rattle.call_page.specs.Claim.{read_number, read_row, number_from, payee_of, height_of}
use Rattle.call_page.proofs.Digits.{digits_few}
use Rattle.call_page.proofs.Lines.{payee_short, height_short}
use Rattle.call_page.proofs.Reading.{read_number_lem, read_height, read_payee}
use Rattle.call_page.proofs.Cuts.{text_of}

-- a number below 1,000, a status below 10,000, a payee, a block below 10 ^ 8, and heights of at most ten digits
module _ (t st payee block lock deadline : ℕ) (ht : t < 1000) (hs : st < 10000) (hp : (payee ≤ 3) ⊎ (payee ≡ unconfirmed))
    (hb : block < 10 ^ 8) (hl : lock < 10 ^ 10) (hd : deadline < 10 ^ 10) where
  fits : (k : ℕ) → k < 6 → length (get_or (texts (t ∷ st ∷ payee ∷ block ∷ lock ∷ deadline ∷ [])) k []) ≤ get_or widths k 0
  unfolding texts
  fits zero h = digits_few 2 t ht
  fits (suc zero) h = digits_few 3 st hs
  fits (suc (suc zero)) h = omega (arith, payee_short payee)
  fits (suc (suc (suc zero))) h = digits_few 7 block hb
  fits (suc (suc (suc (suc zero)))) h = omega (arith, height_short lock hl)
  fits (suc (suc (suc (suc (suc zero))))) h = omega (arith, height_short deadline hd)
  fits (suc (suc (suc (suc (suc (suc k)))))) h = absurd (omega arith)

  pub values_back : let shown = line (texts (t ∷ st ∷ payee ∷ block ∷ lock ∷ deadline ∷ [])) in
      (read_number shown ≡ t) × (read_row shown ≡ st ∷ payee ∷ (bytes_of 4 block ++ (bytes_of 4 lock ++ bytes_of 4 deadline)))
  unfolding texts read_number read_row sum_below
  values_back =
      let shown = texts (t ∷ st ∷ payee ∷ block ∷ lock ∷ deadline ∷ []) in
      let e0 = ap (λ x. number_from 0 x) (text_of shown fits 0 (lit< tt)) ∙ read_number_lem 3 t in
      let e1 = ap (λ x. number_from 0 x) (text_of shown fits 1 (lit< tt)) ∙ read_number_lem 4 st in
      let e2 = ap payee_of (text_of shown fits 2 (lit< tt)) ∙ read_payee 9 payee hp in
      let e3 = ap (λ x. number_from 0 x) (text_of shown fits 3 (lit< tt)) ∙ read_number_lem 8 block in
      let e4 = ap height_of (text_of shown fits 4 (lit< tt)) ∙ read_height 16 lock in
      let e5 = ap height_of (text_of shown fits 5 (lit< tt)) ∙ read_height 16 deadline in
      (e0, rw (e1, e2, e3, e4, e5))
