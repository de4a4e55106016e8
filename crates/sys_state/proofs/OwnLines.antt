-- Terminals of an accepted configuration have lines of their own.
use Rattle.std.proofs.Common.{ℕ, zero, suc, ◌≡◌, ◌≢◌, ◌<◌, ◌+◌, List, [], ◌∷◌, ◌++◌, map, length, slice_index_or, refl, sym, ◌∙◌, subst, arith, append_assoc, length-append}
use Rattle.std.proofs.lemmas.List.{length-map}
use Rattle.std.specs.List.{AllPairs}
use Rattle.std.specs.Prelude.{filter_map}
use Rattle.sys_objects.specs.Condition.{IsConfig}
use Rattle.sys_objects.specs.Rules.{audit_line, lines_of}
use Rattle.sys_objects.specs.declared.records.Config.{Config}
use Rattle.sys_objects.specs.declared.records.GuestRow.{GuestRow}
use Rattle.sys_objects.specs.declared.records.PrinterRow.{PrinterRow}
use Rattle.sys_objects.specs.declared.records.Terminal.{Terminal}

line_of : (ts : List Terminal) (rest : List ℕ) (k : ℕ) (d : Terminal) → k < length ts → slice_index_or (map (λ t. t.line) ts ++ rest) k 0 ≡ (slice_index_or ts k d).line
line_of [] rest k d l = absurd (omega (arith, l))
line_of (t ∷ ts) rest zero d l = refl
line_of (t ∷ ts) rest (suc k) d l = line_of ts rest k d (omega (arith, l))

-- what follows the terminals' lines
abbrev others : Config → List ℕ
others c = map (λ (p : PrinterRow). p.line) c.printers ++ (filter_map (λ (g : GuestRow). g.dump) c.guests ++ audit_line c.audit)

parted : (c : Config) → lines_of c ≡ map (λ (t : Terminal). t.line) c.terminals ++ others c
parted c =
    let a : List ℕ = map (λ (t : Terminal). t.line) c.terminals in
    let b : List ℕ = map (λ (p : PrinterRow). p.line) c.printers in
    let g : List ℕ = filter_map (λ (g : GuestRow). g.dump) c.guests in
    append_assoc (a ++ b) g (audit_line c.audit) ∙ append_assoc a b (g ++ audit_line c.audit)

pub own_lines : (c : Config) → IsConfig c → AllPairs (λ j k. j.line ≢ k.line) c.terminals
own_lines c h i j d l m e =
    let lines : List ℕ = map (λ (t : Terminal). t.line) c.terminals in
    let distinct : AllPairs (λ x y. x ≢ y) (lines ++ others c) = subst (λ xs. AllPairs (λ x y. x ≢ y) xs) (parted c) h.lines in
    let size : length lines ≡ length c.terminals = length-map c.terminals (λ (t : Terminal). t.line) in
    let long : length (lines ++ others c) ≡ length lines + length (others c) = length-append lines (others c) in
    distinct i j 0 l (omega (arith, m, size, long)) (line_of c.terminals (others c) i d (omega (arith, l, m)) ∙ e ∙ sym (line_of c.terminals (others c) j d m))
