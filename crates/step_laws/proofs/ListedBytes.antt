-- The list's bytes, read as steps, are the bytes of the open steps.
-- Assumes nothing.
use Rattle.laws.proofs.Prelude.{ℕ, ◌≡◌, refl, ap, ◌∙◌, List, [], ◌∷◌, ◌++◌, eqb, eqb-true, eq-eqb, arith, map, flat_map, List-as-Memᴰ, split}
use Rattle.position.proofs.Rules.{accepted, Checked, Step, Share, Give, SendToPool, HandToMiner, Include, Mine, Bump, Option, Some, None, step_bytes}
use Rattle.position.specs.declared.Position.{Position}
use Rattle.position.proofs.Rules.{step_refusal, FourBytes, journal_steps, decode_bytes, take_step, take_decoded, step, open_steps, list_bytes, listed_before}
use mathlib.Core.List.Memᴰ
use Rattle.laws.specs.Members.{Rising, map_member, member_map, rising_map}
use Rattle.position.specs.Open.{list_steps}
use Rattle.position.proofs.Decoding.{decodes}
use Rattle.step_laws.proofs.Listed.{open_listed, listed_open}
use Rattle.step_laws.proofs.Rises.{four_of, step_before, open_rises}

one_more : (x : Step) (rest : List ℕ) → journal_steps (step_bytes x ++ rest) ≡ four_of x ∷ journal_steps rest
unfolding journal_steps step_bytes four_of
one_more (Share a t to) rest = refl
one_more (Give a t to) rest = refl
one_more (SendToPool a t to) rest = refl
one_more (HandToMiner a t to) rest = refl
one_more (Include a t to) rest = refl
one_more (Mine a t to) rest = refl
one_more (Bump a t to) rest = refl

steps_of : (l : List Step) → journal_steps (flat_map step_bytes l) ≡ map four_of l
unfolding flat_map journal_steps
steps_of [] = refl
steps_of (x ∷ l) = one_more x (flat_map step_bytes l) ∙ ap (λ r. four_of x ∷ r) (steps_of l)

list_steps_lem : (s u : List ℕ) (p : Position) → list_steps s u p ≡ map four_of (open_steps s u p)
unfolding list_steps list_bytes
list_steps_lem s u p = steps_of (open_steps s u p)

-- a step that decodes is accepted where no test fails, and any other is not
take_accepted : (s u : List ℕ) (p : Position) (x : Step) → (take_step s u p x).refusal ≡ accepted → step_refusal s u p x ≡ accepted
unfolding take_step
take_accepted s u p x h =
    split (eqb (step_refusal s u p x) accepted) (λ e. eqb-true (step_refusal s u p x) accepted e) (λ e. rw (e, take_step) at h)

accepted_take : (s u : List ℕ) (p : Position) (x : Step) → step_refusal s u p x ≡ accepted → (take_step s u p x).refusal ≡ accepted
unfolding take_step
accepted_take s u p x h = rw (eq-eqb (step_refusal s u p x) accepted h, take_step)

decoded_accepted : (s u : List ℕ) (p : Position) (y : Option Step) → (take_decoded s u p y).refusal ≡ accepted → (x : Step) × (y ≡ Some x) × (step_refusal s u p x ≡ accepted)
unfolding take_decoded
decoded_accepted s u p (Some x) h = (x, refl, take_accepted s u p x h)
decoded_accepted s u p None h = absurd (omega (arith, h))

bytes_of : (s u : List ℕ) (b : FourBytes) (x : Step) → decode_bytes s u b ≡ Some x → b ≡ four_of x
unfolding decode_bytes four_of
bytes_of s u b x e = rw (decodes s u b.kind b.party b.transaction b.destination x e).bytes

pub accepted_listed : (s u : List ℕ) (p : Position) (b : FourBytes) → Checked s → (step s u p b).refusal ≡ accepted → List-as-Memᴰ b (list_steps s u p)
unfolding step decode_bytes
accepted_listed s u p b ok h =
    let w = decoded_accepted s u p (decode_bytes s u b) h in
    rw (list_steps_lem s u p)
    (Memᴰ.cast (bytes_of s u b w.0 w.1)
    (map_member four_of (open_steps s u p)
    (open_listed s u p b.kind b.party b.transaction b.destination w.0 ok.sized.few ok.signatures_few
    (record { reads = w.1; passes = w.2 }))))

four_is : (k a t d : ℕ) (x : Step) (b : FourBytes) → step_bytes x ≡ k ∷ a ∷ t ∷ d ∷ [] → b ≡ four_of x → b ≡ record { kind = k; party = a; transaction = t; destination = d }
unfolding four_of
four_is k a t d x b e h = rw e at h

pub listed_accepted : (s u : List ℕ) (p : Position) (b : FourBytes) → List-as-Memᴰ b (list_steps s u p) → (step s u p b).refusal ≡ accepted
unfolding step decode_bytes take_decoded
listed_accepted s u p b m =
    let w = member_map four_of (open_steps s u p) (rw (list_steps_lem s u p) at m) in
    let o = listed_open s u p w.0 w.2 in
    let e = four_is o.0 o.1 o.2 o.3 w.0 b (decodes s u o.0 o.1 o.2 o.3 w.0 o.4.reads).bytes w.1 in
    rw (e, o.4.reads) (accepted_take s u p w.0 o.4.passes)

pub list_rises : (s u : List ℕ) (p : Position) → Rising (listed_before s) (list_steps s u p)
unfolding step_before
list_rises s u p = rw (list_steps_lem s u p) (rising_map (listed_before s) four_of (open_steps s u p) (open_rises s u p))
