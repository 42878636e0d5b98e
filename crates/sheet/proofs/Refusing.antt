-- A row of tests, each by `require` and `?`: it stops at one that fails, goes on behind one that passes, and ends with the last.
-- Assumes nothing.
use Rattle.std.specs.Prelude.{Ok, Err, is_ok}
use Rattle.laws.proofs.Prelude.{ℕ, ◌≡◌, refl, sym, ap, ◌∙◌, Bool, true, false, not, List, [], ◌∷◌, eqb, eq-eqb, split, clash, first_failing, arith}
use Rattle.sheet.specs.declared.refusal.Refusal.{Refusal}
use Rattle.sheet.specs.declared.refusal.Refusal.TheVariants.{SheetShort, SheetCount, SheetSignatures, SheetLength, SheetParent, SheetEntry, SheetLock, SheetChildren, SetupBlocks, SetupConduct, SetupParties, StepField, StepStealth, StepConduct, StepConflict, StepParent, StepSignatures, StepLock, StepDeadline, StepPool, StepBumpOwed, StepNotOwed, StepEmptyBlock, StepBlocks, JournalLength, BufferShort, TimelockRelative, TimelockAbsolute, BundleLayout, BlocksField, BlocksOrder, BlocksLedger, EndingField, EndingImpossible, CountStale, JournalLong, NoneRefused}
use Rattle.sheet.specs.Refusal.{number, refused, required, accepted, Answer}

-- the answer passed on by `?`
pub passed_on : {f : Refusal} (x : Answer) → (y : Refusal) × (x ≡ Err y) × (y ≡ f) → refused x ≡ number f
passed_on x p = rw (p.1, p.2) refl

-- a test that fails refuses with its own number
pub failed : (e : Refusal) (a : Bool) {f : Refusal} → Err f ≡ required a e → (a ≡ false) × (f ≡ e)
failed e a {f} h =
    split a
    (λ y. let z : ◌≡◌ {A = Answer} (Err f) (Ok tt) = rw y at h in let w : ◌≡◌ {A = ℕ} 0 1 = cc in absurd (omega arith))
    (λ y. let z : ◌≡◌ {A = Answer} (Err f) (Err e) = rw y at h in (y, cc))

-- a test by its own lemma: it leaves by `?` where it fails, or ends the row
pub leaves : (e : Refusal) (a : Bool) {f : Refusal} {n : ℕ} (x : Answer) → Err f ≡ required a e → (y : Refusal) × (x ≡ Err y) × (y ≡ f) → (not a ≡ true → number e ≡ n) → refused x ≡ n
leaves e a x h p g = let q = failed e a h in passed_on x p ∙ rw q.1 (g (ap not q.0))

pub ends : (e : Refusal) (a : Bool) {n : ℕ} (r : Answer) → r ≡ required a e → (not a ≡ false → accepted ≡ n) → (not a ≡ true → number e ≡ n) → refused r ≡ n
ends e a r h f g = split a (λ y. ap refused (h ∙ ap (λ b. required b e) y) ∙ f (ap not y)) (λ y. ap refused (h ∙ ap (λ b. required b e) y) ∙ g (ap not y))

module _ (e : Refusal) (a b : Bool) where
  pub there : Ok tt ≡ required a e → a ≡ b → b ≡ true
  there h i =
      split a
      (λ y. sym i ∙ y)
      (λ y. let z : ◌≡◌ {A = Answer} (Ok tt) (Err e) = rw y at h in let w : ◌≡◌ {A = ℕ} 0 1 = cc in absurd (omega arith))

  pub stops : {f : Refusal} (x : Answer) (xs : List (ℕ × Bool)) → Err f ≡ required a e → a ≡ b → (y : Refusal) × (x ≡ Err y) × (y ≡ f) → refused x ≡ first_failing ((number e, b) ∷ xs)
  unfolding first_failing
  stops x xs h i p = let q = failed e a h in rw (sym i ∙ q.0) (passed_on x p ∙ rw q.1 refl)

  pub goes : {n : ℕ} (xs : List (ℕ × Bool)) → Ok tt ≡ required a e → a ≡ b → n ≡ first_failing xs → n ≡ first_failing ((number e, b) ∷ xs)
  unfolding first_failing
  goes xs h i j = rw (there h i) j

  pub last : (r : Answer) → r ≡ required a e → a ≡ b → refused r ≡ first_failing ((number e, b) ∷ [])
  unfolding first_failing
  last r h i = split a (λ y. rw (h, sym i, y)) (λ y. rw (h, sym i, y))

-- no refusal has the number that says that there is none
pub refuses : (e : Refusal) → eqb (number e) accepted ≡ false
refuses SheetShort = refl
refuses SheetCount = refl
refuses SheetSignatures = refl
refuses SheetLength = refl
refuses SheetParent = refl
refuses SheetEntry = refl
refuses SheetLock = refl
refuses SheetChildren = refl
refuses SetupBlocks = refl
refuses SetupConduct = refl
refuses SetupParties = refl
refuses StepField = refl
refuses StepStealth = refl
refuses StepConduct = refl
refuses StepConflict = refl
refuses StepParent = refl
refuses StepSignatures = refl
refuses StepLock = refl
refuses StepDeadline = refl
refuses StepPool = refl
refuses StepBumpOwed = refl
refuses StepNotOwed = refl
refuses StepEmptyBlock = refl
refuses StepBlocks = refl
refuses JournalLength = refl
refuses BufferShort = refl
refuses TimelockRelative = refl
refuses TimelockAbsolute = refl
refuses BundleLayout = refl
refuses BlocksField = refl
refuses BlocksOrder = refl
refuses BlocksLedger = refl
refuses EndingField = refl
refuses EndingImpossible = refl
refuses CountStale = refl
refuses JournalLong = refl
refuses NoneRefused = refl

pub some_refused : (e : Refusal) → number e ≡ accepted → ⊥
some_refused e h = clash (eq-eqb (number e) accepted h) (refuses e)

-- the test of an answer, by its number
pub ok_number : (a : Answer) → is_ok a ≡ eqb (refused a) accepted
ok_number (Ok done) = refl
ok_number (Err e) = sym (refuses e)
