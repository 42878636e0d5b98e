-- Earliest lists and their refusals, computed: one table over a small sheet at 2 blocks per day; and the words of the claims on both
-- sides.
-- Assumes nothing.
use Rattle.laws.proofs.Prelude.{ℕ, ◌≡◌, refl, sym, ap, ◌∙◌, Bool, true, ◌&&◌, false≢true, List, [], ◌∷◌, ◌++◌, eqb, lit<, get_or, arith, some_same, every, sum_below}
use Rattle.laws.proofs.Prelude.{bits_below}
use Rattle.position.proofs.Rules.{sheet_refusal, per_day, setup_refusal, conflict, Entry}
use Rattle.laws.specs.Same.{same}
use Rattle.sheet.proofs.Theorems.{sheet_checked}
use Rattle.position.proofs.Opened.{opened}
use Rattle.claim_ledger.proofs.Once.{one_place}
use Rattle.claim_ledger.proofs.Tested.{entry_at}
use Rattle.call_blocks.specs.BlockList.{list_entries, entry_bytes, list_bytes, entry_named, fields_named, block_within, entries_rise, list_tests, blocks_tests, blocks_refusal}
use Rattle.claim_blocks.proofs.Accepted.{named_low, accepted_tests}
use Rattle.endings.specs.Earliest.{earliest_from, earliest}
use Rattle.endings.specs.Plan.{planned, plan_entry, plan_at, plan}
use Rattle.endings.specs.Ending.{destination_of, paying_named, ending_right, coins_apart, in_time, is_possible, ending_tests}
use Rattle.call_earliest.specs.Answer.{earliest_refusal, earliest_list}
use Rattle.claim_earliest.specs.Claim.{Way, Cause, one_coin, too_late, Listed, Answered}
use Rattle.claim_earliest.specs.Words.{ConfirmsTo}
use Rattle.claim_earliest.proofs.Tested.{goes_at, goes, confirms_by, confirms_says, no_cause}

-- two coins: 0 and 1 open them; 2 pays Alice and 3 Bob, rivals below 0; 4 spends 1, and 5 pays either below it
abbrev pub sheet : List ℕ
sheet =
    6 ∷ 1 ∷ 0 ∷ 1 ∷ 1
    ∷ 255 ∷ 0 ∷ 1 ∷ 0
    ∷ 255 ∷ 0 ∷ 1 ∷ 0
    ∷ 0 ∷ 1 ∷ 1 ∷ 0
    ∷ 0 ∷ 2 ∷ 1 ∷ 0
    ∷ 1 ∷ 0 ∷ 1 ∷ 0
    ∷ 4 ∷ 3 ∷ 1 ∷ 0
    -- locks: 3 absolute, 2 days; 4 since the parent, 1 day; the others none
    ∷ 0 ∷ 0 ∷ 0 ∷ 0 ∷ 0 ∷ 0 ∷ 1 ∷ 2 ∷ 2 ∷ 1 ∷ 0 ∷ 0
    ∷ []

abbrev pub setup : List ℕ
setup = 2 ∷ 0 ∷ 0 ∷ 0 ∷ []

-- a destination in four bytes, and an entry
abbrev pub to : ℕ → List ℕ
to d = d ∷ 0 ∷ 0 ∷ 0 ∷ []

abbrev at : ℕ → ℕ → ℕ → List ℕ
at t d b = t ∷ d ∷ b ∷ 0 ∷ []

-- of a mask and its destinations: the number, and the list up to block 9
pub record Example : Type 0 where
  pub mask : ℕ
  pub dests : List ℕ
  pub number : ℕ
  pub list : List ℕ

unfoldable pub holds : Example → Bool
holds x =
    eqb (earliest_refusal sheet setup x.mask x.dests) x.number
    && same (list_bytes (plan sheet (per_day setup) x.mask (destination_of x.mask x.dests) 9)) x.list

unfoldable pub examples : List Example
examples =
    -- "An empty mask gives an empty list."
    record { mask = 0; dests = []; number = 0; list = [] }
    -- a payout in its parent's own block, and one behind its lock
    ∷ record { mask = 4; dests = to 0; number = 0; list = at 0 2 1 ++ at 2 0 1 }
    ∷ record { mask = 8; dests = to 1; number = 0; list = at 0 2 1 ++ at 3 1 5 }
    -- behind a lock since the parent: 1 + 2 + 1
    ∷ record { mask = 32; dests = to 0; number = 0; list = at 1 2 1 ++ at 4 2 4 ++ at 5 0 4 }
    -- both coins, by block and then number
    ∷ record { mask = 40; dests = to 1 ++ to 1; number = 0; list = at 0 2 1 ++ at 1 2 1 ++ at 4 2 4 ++ at 5 1 4 ++ at 3 1 5 }
    ∷ []

unfoldable pub refusals : List (ℕ × (List ℕ × ℕ))
refusals =
    -- "33 when the mask names a number beyond the sheet or a contract transaction, or a destination isn't a payee, or their list isn't .."
    (64, (to 0, 33))
    ∷ (1, (to 2, 33))
    ∷ (4, (to 1, 33))
    ∷ (4, (1 ∷ 1 ∷ 0 ∷ 0 ∷ [], 33))
    ∷ (4, ([], 33))
    ∷ (0, (to 0, 33))
    -- two of one coin
    ∷ (12, (to 0 ++ to 1, 34))
    ∷ (36, (to 0 ++ to 0, 0))
    ∷ []

unfoldable pub refuses : ℕ × (List ℕ × ℕ) → Bool
refuses x = eqb (earliest_refusal sheet setup x.0 x.1.0) x.1.1

pub sheet_passes : sheet_refusal sheet ≡ 0
unfolding opened
sheet_passes = refl

pub setup_passes : setup_refusal sheet setup ≡ 0
unfolding opened
setup_passes = refl

-- the one fact
pub all_hold : (every holds examples && every refuses refusals) ≡ true
unfolding opened sum_below bits_below entry_bytes list_bytes earliest_from earliest planned plan_entry plan_at plan destination_of paying_named ending_right coins_apart in_time is_possible ending_tests earliest_refusal holds examples refusals refuses
all_hold = refl

-- ---- the words of the claims, where each is true and where it is not
-- Bob paid from the first coin: named, and to him; not with another only, nor to Alice
abbrev pays_bob : List Entry
pays_bob = list_entries (at 0 2 1 ++ at 3 1 5)

pub confirmed : ConfirmsTo sheet 8 (destination_of 8 (to 1)) pays_bob
unfolding opened sum_below bits_below list_entries destination_of goes goes_at
confirmed = confirms_by sheet 8 (destination_of 8 (to 1)) pays_bob refl

pub not_confirmed : ConfirmsTo sheet 4 (destination_of 4 (to 0)) pays_bob → ⊥
unfolding opened sum_below bits_below list_entries destination_of goes_at
not_confirmed h = false≢true (confirms_says sheet 4 (destination_of 4 (to 0)) pays_bob h 2 (lit< tt) refl)

pub not_to_alice : ConfirmsTo sheet 8 (destination_of 8 (to 0)) pays_bob → ⊥
unfolding opened sum_below bits_below list_entries destination_of goes_at
not_to_alice h = false≢true (confirms_says sheet 8 (destination_of 8 (to 0)) pays_bob h 3 (lit< tt) refl)

taken : blocks_refusal sheet setup (at 0 2 1 ++ at 3 1 5) ≡ 0
unfolding opened list_entries entry_named fields_named block_within entries_rise list_tests blocks_tests blocks_refusal
taken = refl

-- so there is a way to pay Bob; there is none where the setup is refused, and none to pay both from the first coin
pub a_way : Way sheet setup 8 (to 1)
a_way = record { list = at 0 2 1 ++ at 3 1 5; taken = taken; confirms = confirmed }

pub no_way_refused : Way sheet [] 8 (to 1) → ⊥
unfolding opened blocks_tests blocks_refusal
no_way_refused w = let z : ◌≡◌ {A = ℕ} 9 0 = w.taken in omega arith

rivals : conflict sheet 3 2 ≡ true
unfolding opened
rivals = refl

pub no_way : Way sheet setup 12 (to 0 ++ to 1) → ⊥
unfolding opened sum_below bits_below destination_of
no_way w =
    let tests = accepted_tests sheet setup sheet_passes setup_passes w.list w.taken in
    let a = w.confirms 2 (lit< tt) refl in
    let b = w.confirms 3 (lit< tt) refl in
    let place : a.0 ≡ b.0 = one_place sheet (per_day setup) (sheet_checked sheet sheet_passes) (list_entries w.list) (named_low sheet w.list tests.0) tests.2 a.0 b.0 a.1 b.1 a.2 b.2 (rw (a.3, b.3) rivals) in
    let entry : a.1 ≡ b.1 = some_same (sym a.2 ∙ rw place b.2) in
    let z : ◌≡◌ {A = ℕ} 2 3 = sym a.3 ∙ rw entry b.3 in
    omega arith

-- the causes: two of one coin, and at 9,999 blocks per day 4 in block 10,001; one of a coin, and 4 in block 10,000, are none
pub of_one_coin : Cause sheet 2 12
unfolding opened
of_one_coin = one_coin 2 3 (lit< tt) (lit< tt) refl refl (λ e. omega (arith, e)) refl

pub late : Cause sheet 9999 32
unfolding opened earliest_from earliest planned
late = too_late 4 (lit< tt) refl (lit< tt)

pub not_of_one_coin : Cause sheet 2 36 → ⊥
unfolding opened earliest_from earliest planned coins_apart in_time is_possible
not_of_one_coin = no_cause sheet 2 36 refl

pub not_late : Cause sheet 9998 32 → ⊥
unfolding opened earliest_from earliest planned coins_apart in_time is_possible
not_late = no_cause sheet 9998 32 refl

-- what the call leaves in nine bytes: the list's two entries, and the last byte as it was
pub list_is : earliest_list sheet setup 8 (to 1) ≡ pays_bob
unfolding opened sum_below bits_below list_entries earliest_from earliest planned plan_entry plan_at plan destination_of earliest_list
list_is = refl

abbrev sevens : List ℕ
sevens = 7 ∷ 7 ∷ 7 ∷ 7 ∷ 7 ∷ 7 ∷ 7 ∷ 7 ∷ 7 ∷ []

not_refused : earliest_refusal sheet setup 8 (to 1) ≡ 0
unfolding opened sum_below bits_below earliest_from earliest planned destination_of paying_named ending_right coins_apart in_time is_possible ending_tests earliest_refusal
not_refused = refl

is_refused : earliest_refusal sheet setup 8 [] ≡ 33
unfolding opened sum_below bits_below earliest_from earliest planned destination_of paying_named ending_right coins_apart in_time is_possible ending_tests earliest_refusal
is_refused = refl

pub left : Listed sheet setup 8 (to 1) sevens 2 (at 0 2 1 ++ at 3 1 5 ++ (7 ∷ []))
unfolding opened entry_bytes list_bytes list_entries
left =
    record {
      unrefused = not_refused;
      counted = rw list_is;
      bytes = rw list_is;
      entries = rw list_is;
      taken = taken;
      confirms = confirmed;
      beyond = refl;
      long = refl;
    }

-- not with a count of 1, with another entry, with another byte behind, or with a byte more
pub not_counted : Listed sheet setup 8 (to 1) sevens 1 (at 0 2 1 ++ at 3 1 5 ++ (7 ∷ [])) → ⊥
unfolding list_entries
not_counted h = let z : ◌≡◌ {A = ℕ} 1 2 = rw list_is at h.counted in omega arith

pub not_those_bytes : Listed sheet setup 8 (to 1) sevens 2 (at 0 2 1 ++ at 3 0 5 ++ (7 ∷ [])) → ⊥
unfolding opened entry_bytes list_bytes list_entries
not_those_bytes h = let z : ◌≡◌ {A = ℕ} 0 1 = ap (λ l. get_or l 5 0) (rw list_is at h.bytes) in omega arith

pub not_those_entries : Listed sheet setup 8 (to 1) sevens 2 (at 0 2 1 ++ at 3 0 5 ++ (7 ∷ [])) → ⊥
unfolding list_entries
not_those_entries h = let z : ◌≡◌ {A = ℕ} 0 1 = ap (λ l. (entry_at l 1).destination) (rw list_is at h.entries) in omega arith

pub not_beyond : Listed sheet setup 8 (to 1) sevens 2 (at 0 2 1 ++ at 3 1 5 ++ (8 ∷ [])) → ⊥
not_beyond h = let z : ◌≡◌ {A = ℕ} 8 7 = ap (λ l. get_or l 0 0) h.beyond in omega arith

pub not_longer : Listed sheet setup 8 (to 1) sevens 2 (at 0 2 1 ++ at 3 1 5 ++ (7 ∷ 7 ∷ [])) → ⊥
not_longer h = let z : ◌≡◌ {A = ℕ} 10 9 = h.long in omega arith

-- not where the ending is refused, with a list that is not accepted, or with one that pays Alice
pub not_refused_ending : Listed sheet setup 8 [] sevens 0 sevens → ⊥
not_refused_ending h = let z : ◌≡◌ {A = ℕ} 33 0 = rw is_refused at h.unrefused in omega arith

pub not_taken : Listed sheet setup 8 (to 1) sevens 2 (at 3 1 5 ++ at 0 2 1 ++ (7 ∷ [])) → ⊥
unfolding opened list_entries entry_named fields_named block_within entries_rise list_tests blocks_tests blocks_refusal
not_taken h = let z : ◌≡◌ {A = ℕ} 30 0 = h.taken in omega arith

pub not_confirming : Listed sheet setup 8 (to 1) sevens 2 (at 0 2 1 ++ at 3 0 5 ++ (7 ∷ [])) → ⊥
unfolding opened sum_below bits_below list_entries destination_of goes_at
not_confirming h = false≢true (confirms_says sheet 8 (destination_of 8 (to 1)) (list_entries (at 0 2 1 ++ at 3 0 5)) h.confirms 3 (lit< tt) refl)

-- the answers: 0 and 2 in nine bytes, 25 and 0 in seven, 33 and 0 without a destination
pub answered : Answered sheet setup 8 (to 1) sevens 0 2 (at 0 2 1 ++ at 3 1 5 ++ (7 ∷ []))
unfolding list_entries
answered = record { number = rw (not_refused, list_is); written = λ z. left; refused = λ f. absurd (f refl) }

pub answered_short : Answered sheet setup 8 (to 1) (7 ∷ 7 ∷ 7 ∷ 7 ∷ 7 ∷ 7 ∷ 7 ∷ []) 25 0 (7 ∷ 7 ∷ 7 ∷ 7 ∷ 7 ∷ 7 ∷ 7 ∷ [])
unfolding list_entries
answered_short = record { number = rw (not_refused, list_is); written = λ z. absurd (omega (arith, z)); refused = λ f. (refl, refl) }

pub answered_refused : Answered sheet setup 8 [] sevens 33 0 sevens
answered_refused = record { number = rw is_refused; written = λ z. absurd (omega (arith, z)); refused = λ f. (refl, refl) }

-- not 25 where the list fits, nor 0 where it does not; where refused, not a count of 1, nor a byte written
pub not_25 : Answered sheet setup 8 (to 1) sevens 25 0 sevens → ⊥
unfolding list_entries
not_25 h = let z : ◌≡◌ {A = ℕ} 25 0 = rw (not_refused, list_is) at h.number in omega arith

pub not_0 : Answered sheet setup 8 (to 1) [] 0 2 [] → ⊥
unfolding list_entries
not_0 h = let z : ◌≡◌ {A = ℕ} 0 25 = rw (not_refused, list_is) at h.number in omega arith

pub not_one : Answered sheet setup 8 [] sevens 33 1 sevens → ⊥
not_one h = let z : ◌≡◌ {A = ℕ} 1 0 = (h.refused (λ e. omega (arith, e))).0 in omega arith

pub not_written : Answered sheet setup 8 [] (7 ∷ []) 33 0 (8 ∷ []) → ⊥
not_written h = let z : ◌≡◌ {A = ℕ} 8 7 = ap (λ l. get_or l 0 0) (h.refused (λ e. omega (arith, e))).1 in omega arith

-- 0 is answered with the list there, and with nothing else
pub not_unwritten : Answered sheet setup 8 (to 1) sevens 0 2 sevens → ⊥
unfolding opened entry_bytes list_bytes list_entries
not_unwritten h = let z : ◌≡◌ {A = ℕ} 7 0 = ap (λ l. get_or l 0 0) (rw list_is at (h.written refl).bytes) in omega arith
