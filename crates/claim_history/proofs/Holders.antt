-- What a table of the coins' holders holds, told by the entries.
-- Assumes nothing.
use Rattle.laws.proofs.Prelude.{ℕ, ◌<◌, ◌≤◌, ◌≡◌, sym, ◌∙◌, List, ltb, length, get_or, ltb-true, ltb-false, arith, split}
use lib.Seq.{ext_get_or}
use Rattle.laws.specs.Calls.{TableOf, table_of_none}
use Rattle.laws.specs.Each.{length_rewrite_first, rewritten, not_rewritten}
use Rattle.sheet.specs.Field.{count}
use Rattle.claim_history.specs.Promise.{nobodies, holders}

pub holders_of : (answers : ℕ → ℕ → Type 0) (s : List ℕ) (held : ℕ → ℕ) (table : List ℕ) → count s ≤ 32 → TableOf answers 32 (count s) 255 table
    → ((k v : ℕ) → k < count s → answers k v → v ≡ held k) → table ≡ holders s held
unfolding holders
holders_of answers s held table few t f =
    let long : length nobodies ≡ 32 = (table_of_none answers 32 255).size in
    ext_get_or 255 table (holders s held)
    (t.size ∙ sym long ∙ sym (length_rewrite_first (count s) (λ coin x. held coin) nobodies))
    (λ k l. split (ltb k (count s))
    (λ y. let h = ltb-true k (count s) y in f k (get_or table k 255) h (t.each k h) ∙ sym (rewritten (count s) (λ coin x. held coin) nobodies k 255 h (omega (arith, h, few, long))))
    (λ y. let h = ltb-false k (count s) y in t.other k h ∙ sym (not_rewritten (count s) (λ coin x. held coin) nobodies k 255 h ∙ (table_of_none answers 32 255).other k (omega arith))))
