-- Every accepted step, whatever its kind: where the entries, shared signatures and keys after it come from.
-- Assumes nothing.
use Rattle.laws.proofs.Prelude.{ℕ, ◌≡◌, true, List}
use Rattle.position.proofs.Rules.{Step, Share, Give, SendToPool, HandToMiner, Include, Mine, Bump, fields_right, step_refusal, effect}
use Rattle.position.specs.declared.Position.{Position}
use Rattle.step_laws.proofs.Provenance.{Moved}
use Rattle.step_laws.proofs.MovedShare.{moved_share}
use Rattle.step_laws.proofs.MovedGive.{moved_give}
use Rattle.step_laws.proofs.MovedEntry.{moved_send, moved_hand_in, moved_include, moved_bump}
use Rattle.step_laws.proofs.MovedMine.{moved_mine}

pub moved : (s u : List ℕ) (p : Position) (x : Step) → fields_right s u x ≡ true → step_refusal s u p x ≡ 0 → Moved s u p (effect s p x)
unfolding effect
moved s u p (Share party t to) f h = moved_share s u p party t to f h
moved s u p (Give party i to) f h = moved_give s u p party i to f h
moved s u p (SendToPool party t to) f h = moved_send s u p party t to f h
moved s u p (HandToMiner party t to) f h = moved_hand_in s u p party t to f h
moved s u p (Include party t to) f h = moved_include s u p t
moved s u p (Mine party t to) f h = moved_mine s u p
moved s u p (Bump party t to) f h = moved_bump s u p t
