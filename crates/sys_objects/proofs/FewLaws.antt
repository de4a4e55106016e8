-- How many objects and lines there are at most.
use Rattle.std.proofs.Common.{◌≡◌, ◌≤◌, suc, List, [], ◌∷◌, length, map, Option, Some, None, arith, length-append, refl, ap}
use Rattle.std.specs.List.{filter_map}
use Rattle.sys_objects.specs.Rules.{IsFew, objects_of, lines_of, audit_line}
use Rattle.sys_objects.specs.declared.records.Config.{Config}
use Rattle.sys_objects.specs.declared.records.Audit.{Audit}
use Rattle.sys_objects.specs.declared.records.GuestRow.{GuestRow}

pub length-mapped : {A B : Type 0} (f : A → B) (xs : List A) → length (map f xs) ≡ length xs
length-mapped f [] = refl
length-mapped f (x ∷ xs) = ap suc (length-mapped f xs)

few_dumps : (gs : List GuestRow) → length (filter_map (λ g. g.dump) gs) ≤ length gs
few_dumps [] = omega arith
few_dumps (g ∷ gs) = elim g.dump as (λ o. length (filter_map (λ g. g.dump) (record g { dump = o } ∷ gs)) ≤ suc (length gs)) [
  | None ↦ omega (arith, few_dumps gs)
  | Some line ↦ omega (arith, few_dumps gs)
]

one_audit : (a : Option Audit) → length (audit_line a) ≤ 1
one_audit None = omega arith
one_audit (Some a) = omega arith

pub few_objects : (c : Config) → IsFew c → length (objects_of c) ≤ 96
few_objects c few =
    simp (length-append, length-mapped) (omega (arith, few.terminals, few.volumes, few.printers, few.guests))

pub few_lines : (c : Config) → IsFew c → length (lines_of c) ≤ 81
few_lines c few =
    simp (length-append, length-mapped) (omega (arith, few.terminals, few.printers, few.guests, few_dumps c.guests, one_audit c.audit))
