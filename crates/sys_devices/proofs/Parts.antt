-- What a sink was shown of a text that is known only where something holds, part by part.
use Rattle.std.proofs.Common.{ℕ, ◌≡◌, List, [], ◌++◌, sym, ◌∙◌, ap, subst, Bool, true, false}
use Rattle.vv_io.specs.Lines.{Seen}
use Rattle.sys_devices.proofs.Puts.{joined, shows_nothing, still, with_more}
use Rattle.sys_devices.specs.ShownSince.{ShownSince}

-- Since a start all of a text is shown but for a rest.
pub record IsPart (Told : Type 0) (start now : Seen) (rest whole : List ℕ) : Type 0 where
  pub text : List ℕ
  pub shown : ShownSince false start now text
  pub exact : Told → text ++ rest ≡ whole

-- Since a start a text is shown, whole or cut.
pub record IsShown (Told : Type 0) (cut : Bool) (start now : Seen) (whole : List ℕ) : Type 0 where
  pub text : List ℕ
  pub shown : ShownSince cut start now text
  pub exact : Told → text ≡ whole

pub part_begins : (Told : Type 0) (start : Seen) (rest whole : List ℕ) → (Told → rest ≡ whole) → IsPart Told start start rest whole
part_begins Told start rest whole is = record { text = []; shown = shows_nothing start; exact = is }

-- the next part of the rest is shown
pub part_goes_on : (Told : Type 0) (start now after : Seen) (rest more left whole : List ℕ) → (Told → rest ≡ more ++ left) → IsPart Told start now rest whole → ShownSince false now after more → IsPart Told start after left whole
part_goes_on Told start now after rest more left whole parts before shown = record {
  text = before.text ++ more;
  shown = joined false start now after before.text more before.shown shown;
  exact = λ told. with_more before.text more left rest whole (parts told) (before.exact told);
}

-- it fails there
pub part_stops : (Told : Type 0) (cut : Bool) (start now after : Seen) (rest more left whole : List ℕ) → cut ≡ true → (Told → rest ≡ more ++ left) → IsPart Told start now rest whole → ShownSince true now after more → IsShown Told cut start after whole
part_stops Told cut start now after rest more left whole fault parts before shown = record {
  text = (before.text ++ more) ++ left;
  shown = subst (λ (b : Bool). ShownSince b start after ((before.text ++ more) ++ left)) (sym fault) (still start after (before.text ++ more) left (joined true start now after before.text more before.shown shown));
  exact = λ told. with_more before.text more left rest whole (parts told) (before.exact told);
}

-- the whole rest is put
pub part_ends : (Told : Type 0) (cut : Bool) (start now after : Seen) (rest more whole : List ℕ) → (Told → rest ≡ more) → IsPart Told start now rest whole → ShownSince cut now after more → IsShown Told cut start after whole
part_ends Told cut start now after rest more whole parts before shown = record {
  text = before.text ++ more;
  shown = joined cut start now after before.text more before.shown shown;
  exact = λ told. ap (λ (xs : List ℕ). before.text ++ xs) (sym (parts told)) ∙ before.exact told;
}
