-- The invariant holds of a new fabric.
use Rattle.std.proofs.Common.{ℕ, refl, inl}
use Rattle.std.proofs.lemmas.Bool.{false≢true}
use Rattle.bedrock.specs.declared.words.Words.{Words}
use Rattle.bedrock.specs.Geometries.{Sizes}
use Rattle.machine.proofs.Ghost.{new_ghost}
use Rattle.machine.proofs.Invariant.{Invariant}
use Rattle.machine.proofs.Frames.{none_some, no_mail_to}

pub new_fabric_good : (n : Sizes) (content : ℕ → Words) → Invariant (new_ghost n content)
new_fabric_good n content = record {
  mailboxes = λ s c. ((λ w. refl), refl);
  jobs = λ s. tt;
  entries_apart = λ s c w d x _ h. absurd (false≢true h);
  copies_apart = λ s c w d x _ h. absurd (false≢true h);
  entries_home = λ s c w h. absurd (false≢true h);
  blanks = λ s c w h. refl;
  copies_home = λ s c w h. absurd (false≢true h);
  waits = λ s c o e. absurd (none_some o e);
  asks = λ c _. refl;
  ranges = λ c q e. absurd (none_some q e);
  places = λ s c q e. absurd (none_some q e);
  pendings = λ b. refl;
  pending_ranges = λ b. inl refl;
  agrees = λ s c w. record { state = refl; block = refl };
  copies = λ s c w h. absurd (false≢true h);
  mails = λ s c d b w st ws sender e. absurd (no_mail_to e);
  newest = λ b. inl refl;
}
