-- Each line has one device: on the line of a far device are far objects alone.
use Rattle.std.proofs.Common.{◌≡◌, ◌≢◌, ◌<◌, ◌≤◌, ℕ, zero, suc, List, [], ◌∷◌, ◌++◌, length, map, true, refl, sym, ap, ◌∙◌, subst, get_or, Option, Some, None, IfSome, slice_get, Bool, inl, inr, arith}
use Rattle.std.specs.List.{AllPairs, cons_option, filter_map}
use Rattle.sys_flow.specs.Reach.{IsTheAudit, ObjectPlace}
use Rattle.vvmm_laws.proofs.Far.{IsFarLine, far_guest, far_printer, far_terminal}
use Rattle.sys_objects.specs.Condition.{IsAudit, IsConfig, IsGuest, IsPrinter, IsTerminal}
use Rattle.sys_objects.specs.Rules.{audit_line, lines_of}
use Rattle.sys_objects.specs.declared.records.Audit.{Audit}
use Rattle.sys_objects.specs.declared.records.Config.{Config}
use Rattle.sys_objects.specs.declared.records.GuestRow.{GuestRow}
use Rattle.sys_objects.specs.declared.records.PrinterRow.{PrinterRow}
use Rattle.sys_objects.specs.declared.records.Terminal.{Terminal}
use Rattle.sys_purge.proofs.Fits.{all_get}
use Rattle.sys_purge.proofs.Members.{IsIn}

-- lists in which no element occurs twice
abbrev pub Distinct : List ℕ → Type 0
Distinct [] = Unit {0}
Distinct (x ∷ xs) = ((y : ℕ) → IsIn y xs → x ≡ y → ⊥) × Distinct xs

all_in : {X : Type 0} (P : X → Type 0) (xs : List X) (d : X) → ((k : ℕ) → k < length xs → P (get_or xs k d)) → (y : X) → IsIn y xs → P y
all_in P [] d h y i = absurd i
all_in P (x ∷ xs) d h y (inl e) = subst P e (h 0 (omega arith))
all_in P (x ∷ xs) d h y (inr i) = all_in P xs d (λ k l. h (suc k) (omega (arith, l))) y i

pub distinct : (xs : List ℕ) → AllPairs (λ x y. x ≢ y) xs → Distinct xs
distinct [] all = tt
distinct (x ∷ xs) all = (
  all_in (λ (y : ℕ). x ≡ y → ⊥) xs 0 (λ k l. all 0 (suc k) 0 (omega arith) (omega (arith, l))),
  distinct xs (λ i j d before within. all (suc i) (suc j) d (omega (arith, before)) (omega (arith, within))),
)

abbrev pub Apart : List ℕ → List ℕ → Type 0
Apart xs ys = (x y : ℕ) → IsIn x xs → IsIn y ys → x ≡ y → ⊥

in_front : (x : ℕ) (xs ys : List ℕ) → IsIn x xs → IsIn x (xs ++ ys)
in_front x [] ys i = absurd i
in_front x (z ∷ zs) ys (inl e) = inl e
in_front x (z ∷ zs) ys (inr i) = inr (in_front x zs ys i)

in_end : (x : ℕ) (xs ys : List ℕ) → IsIn x ys → IsIn x (xs ++ ys)
in_end x [] ys i = i
in_end x (z ∷ zs) ys i = inr (in_end x zs ys i)

pub front_distinct : (xs ys : List ℕ) → Distinct (xs ++ ys) → Distinct xs
front_distinct [] ys d = tt
front_distinct (x ∷ xs) ys d = ((λ y i. d.0 y (in_front y xs ys i)), front_distinct xs ys d.1)

end_distinct : (xs ys : List ℕ) → Distinct (xs ++ ys) → Distinct ys
end_distinct [] ys d = d
end_distinct (x ∷ xs) ys d = end_distinct xs ys d.1

pub parts_apart : (xs ys : List ℕ) → Distinct (xs ++ ys) → Apart xs ys
parts_apart [] ys d x y i j e = absurd i
parts_apart (z ∷ zs) ys d x y (inl s) j e = d.0 y (in_end y zs ys j) (s ∙ e)
parts_apart (z ∷ zs) ys d x y (inr i) j e = parts_apart zs ys d.1 x y i j e

-- the lines of rows
pub in_map : {X : Type 0} (f : X → ℕ) (xs : List X) (k : ℕ) (x : X) → slice_get xs k ≡ Some x → IsIn (f x) (map f xs)
in_map f [] k x at = cc
in_map f (y ∷ ys) zero x at = let s : y ≡ x = cc in inl (ap f s)
in_map f (y ∷ ys) (suc k) x at = inr (in_map f ys k x at)

pub one_place : {X : Type 0} (f : X → ℕ) (xs : List X) → Distinct (map f xs) → (j k : ℕ) (x y : X) → slice_get xs j ≡ Some x → slice_get xs k ≡ Some y → f x ≡ f y → j ≡ k
one_place f [] d j k x y at_x at_y e = cc
one_place f (z ∷ zs) d zero zero x y at_x at_y e = refl
one_place f (z ∷ zs) d zero (suc k) x y at_x at_y e = let s : z ≡ x = cc in absurd (d.0 (f y) (in_map f zs k y at_y) (ap f s ∙ e))
one_place f (z ∷ zs) d (suc j) zero x y at_x at_y e = let s : z ≡ y = cc in absurd (d.0 (f x) (in_map f zs j x at_x) (ap f s ∙ sym e))
one_place f (z ∷ zs) d (suc j) (suc k) x y at_x at_y e = ap suc (one_place f zs d.1 j k x y at_x at_y e)

-- the lines of dumps
abbrev dumps : List GuestRow → List ℕ
dumps rows = filter_map (λ (g : GuestRow). g.dump) rows

in_cons : (l : ℕ) (o : Option ℕ) (xs : List ℕ) → IsIn l xs → IsIn l (cons_option o xs)
in_cons l None xs i = i
in_cons l (Some m) xs i = inr i

in_here : (l : ℕ) (o : Option ℕ) (xs : List ℕ) → o ≡ Some l → IsIn l (cons_option o xs)
in_here l None xs e = cc
in_here l (Some m) xs e = let s : m ≡ l = cc in inl s

in_dumps : (rows : List GuestRow) (g : ℕ) (row : GuestRow) (l : ℕ) → slice_get rows g ≡ Some row → row.dump ≡ Some l → IsIn l (dumps rows)
in_dumps [] g row l at e = cc
in_dumps (r ∷ rows) zero row l at e = let s : r ≡ row = cc in in_here l r.dump (dumps rows) (ap (λ (x : GuestRow). x.dump) s ∙ e)
in_dumps (r ∷ rows) (suc g) row l at e = in_cons l r.dump (dumps rows) (in_dumps rows g row l at e)

rest_distinct : (o : Option ℕ) (xs : List ℕ) → Distinct (cons_option o xs) → Distinct xs
rest_distinct None xs d = d
rest_distinct (Some m) xs d = d.1

not_again : (l : ℕ) (o : Option ℕ) (xs : List ℕ) → Distinct (cons_option o xs) → o ≡ Some l → IsIn l xs → ⊥
not_again l None xs d e i = cc
not_again l (Some m) xs d e i = let s : m ≡ l = cc in d.0 l i s

one_dump : (rows : List GuestRow) → Distinct (dumps rows) → (g h : ℕ) (x y : GuestRow) (l : ℕ) → slice_get rows g ≡ Some x → slice_get rows h ≡ Some y → x.dump ≡ Some l → y.dump ≡ Some l → g ≡ h
one_dump [] d g h x y l at_x at_y a b = cc
one_dump (r ∷ rows) d zero zero x y l at_x at_y a b = refl
one_dump (r ∷ rows) d zero (suc h) x y l at_x at_y a b =
    let s : r ≡ x = cc in absurd (not_again l r.dump (dumps rows) d (ap (λ (z : GuestRow). z.dump) s ∙ a) (in_dumps rows h y l at_y b))
one_dump (r ∷ rows) d (suc g) zero x y l at_x at_y a b =
    let s : r ≡ y = cc in absurd (not_again l r.dump (dumps rows) d (ap (λ (z : GuestRow). z.dump) s ∙ b) (in_dumps rows g x l at_x a))
one_dump (r ∷ rows) d (suc g) (suc h) x y l at_x at_y a b = ap suc (one_dump rows (rest_distinct r.dump (dumps rows) d) g h x y l at_x at_y a b)

module _ (c : Config) where
  abbrev ts : List ℕ
  ts = map (λ (t : Terminal). t.line) c.terminals

  abbrev ps : List ℕ
  ps = map (λ (q : PrinterRow). q.line) c.printers

  abbrev ds : List ℕ
  ds = dumps c.guests

  in_audit : (a : Audit) → c.audit ≡ Some a → IsIn a.line (audit_line c.audit)
  in_audit a e = rw e (inl refl)

  module _ (is : IsConfig c) (far : ObjectPlace → Bool) where
    all : Distinct (((ts ++ ps) ++ ds) ++ audit_line c.audit)
    all = distinct (lines_of c) is.lines

    three : Distinct ((ts ++ ps) ++ ds)
    three = front_distinct ((ts ++ ps) ++ ds) (audit_line c.audit) all

    two : Distinct (ts ++ ps)
    two = front_distinct (ts ++ ps) ds three

    terminals_printers : Apart ts ps
    terminals_printers = parts_apart ts ps two

    terminals_dumps : Apart ts ds
    terminals_dumps x y i j = parts_apart (ts ++ ps) ds three x y (in_front x ts ps i) j

    printers_dumps : Apart ps ds
    printers_dumps x y i j = parts_apart (ts ++ ps) ds three x y (in_end x ts ps i) j

    terminals_audit : Apart ts (audit_line c.audit)
    terminals_audit x y i j = parts_apart ((ts ++ ps) ++ ds) (audit_line c.audit) all x y (in_front x (ts ++ ps) ds (in_front x ts ps i)) j

    printers_audit : Apart ps (audit_line c.audit)
    printers_audit x y i j = parts_apart ((ts ++ ps) ++ ds) (audit_line c.audit) all x y (in_front x (ts ++ ps) ds (in_end x ts ps i)) j

    dumps_audit : Apart ds (audit_line c.audit)
    dumps_audit x y i j = parts_apart ((ts ++ ps) ++ ds) (audit_line c.audit) all x y (in_end x (ts ++ ps) ds i) j

    abbrev terminal_line : Terminal → ℕ
    terminal_line t = t.line

    abbrev printer_line : PrinterRow → ℕ
    printer_line q = q.line

    pub terminal_silent : (n : ℕ) (k : Terminal) → slice_get c.terminals n ≡ Some k → far_terminal c far n ≡ true → IsFarLine c far k.line
    terminal_silent n k at f =
        let here : IsIn k.line ts = in_map terminal_line c.terminals n k at in
        record {
          terminals = λ m t at_t e. ap (far_terminal c far) (one_place terminal_line c.terminals (front_distinct ts ps two) m n t k at_t at e) ∙ f;
          printers = λ p q at_q e. absurd (terminals_printers k.line q.line here (in_map printer_line c.printers p q at_q) (sym e));
          audit = λ a at_a e. absurd (terminals_audit k.line a.line here (in_audit a at_a) (sym e));
          dumps = λ g row at_g e. absurd (terminals_dumps k.line k.line here (in_dumps c.guests g row k.line at_g e) refl);
        }

    pub printer_silent : (p : ℕ) (q : PrinterRow) → slice_get c.printers p ≡ Some q → far_printer c far p ≡ true → IsFarLine c far q.line
    printer_silent p q at f =
        let here : IsIn q.line ps = in_map printer_line c.printers p q at in
        record {
          terminals = λ m t at_t e. absurd (terminals_printers t.line q.line (in_map terminal_line c.terminals m t at_t) here e);
          printers = λ r x at_x e. ap (far_printer c far) (one_place printer_line c.printers (end_distinct ts ps two) r p x q at_x at e) ∙ f;
          audit = λ a at_a e. absurd (printers_audit q.line a.line here (in_audit a at_a) (sym e));
          dumps = λ g row at_g e. absurd (printers_dumps q.line q.line here (in_dumps c.guests g row q.line at_g e) refl);
        }

    pub dump_silent : (g : ℕ) (row : GuestRow) (line : ℕ) → slice_get c.guests g ≡ Some row → row.dump ≡ Some line → far_guest c far g ≡ true → IsFarLine c far line
    dump_silent g row line at d f =
        let here : IsIn line ds = in_dumps c.guests g row line at d in
        record {
          terminals = λ m t at_t e. absurd (terminals_dumps t.line line (in_map terminal_line c.terminals m t at_t) here e);
          printers = λ p q at_q e. absurd (printers_dumps q.line line (in_map printer_line c.printers p q at_q) here e);
          audit = λ a at_a e. absurd (dumps_audit line a.line here (in_audit a at_a) (sym e));
          dumps = λ h x at_x e. ap (far_guest c far) (one_dump c.guests (end_distinct (ts ++ ps) ds three) h g x row line at_x at e d) ∙ f;
        }

    pub audit_silent : (a : Audit) → c.audit ≡ Some a → far IsTheAudit ≡ true → IsFarLine c far a.line
    audit_silent a at f =
        let here : IsIn a.line (audit_line c.audit) = in_audit a at in
        record {
          terminals = λ m t at_t e. absurd (terminals_audit t.line a.line (in_map terminal_line c.terminals m t at_t) here e);
          printers = λ p q at_q e. absurd (printers_audit q.line a.line (in_map printer_line c.printers p q at_q) here e);
          audit = λ b at_b e. f;
          dumps = λ g row at_g e. absurd (dumps_audit a.line a.line (in_dumps c.guests g row a.line at_g e) here refl);
        }

    -- a line on which there is nothing
    few_dump : (row : GuestRow) → IsGuest row → row.dump ≡ Some 32 → ⊥
    few_dump row fit e = let h : 32 ≤ 31 = subst (λ (o : Option ℕ). IfSome o (λ line. line ≤ 31)) e fit.dump in omega (arith, h)

    few_audit : (a : Audit) → c.audit ≡ Some a → a.line ≡ 32 → ⊥
    few_audit a at e = let h : IsAudit a = subst (λ (o : Option Audit). IfSome o IsAudit) at is.audit in omega (arith, h.line, e)

    pub nobody_silent : IsFarLine c far 32
    nobody_silent = record {
      terminals = λ m t at_t e. absurd (omega (arith, (all_get IsTerminal c.terminals m t is.terminals at_t).line, e));
      printers = λ p q at_q e. absurd (omega (arith, (all_get IsPrinter c.printers p q is.printers at_q).line, e));
      audit = λ a at_a e. absurd (few_audit a at_a e);
      dumps = λ g row at_g e. absurd (few_dump row (all_get IsGuest c.guests g row is.guests at_g) e);
    }
