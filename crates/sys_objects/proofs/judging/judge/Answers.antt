use Rattle.std.proofs.Common.{◌≡◌, [], ap, ◌∙◌, arith}
use Rattle.std.proofs.lemmas.Grind.{common_steps}
use Rattle.sys_objects.specs.Judged.{validated}
use Rattle.sys_objects.specs.Rules.{first_broken, objects_of}
use Rattle.sys_objects.proofs.Firsts.{pages_hold}
use Rattle.sys_objects.proofs.Judged.{audit_holds, console_holds, mounts_hold, printer_holds}
use Rattle.sys_objects.proofs.judging.judge.Goals as goal

pub returns-in_err-unless_at-4 : goal.returns-in_err-unless_at-4
unfolding validated
returns-in_err-unless_at-4 c =
    let printers : c.first_broken-3.result ≡ first_broken (printer_holds c.args.c.now.printers) [] c.args.c.now.guests =
    c.first_broken-3.ensures.value ∙ (λ i. first_broken (printer_holds (c.as_slice-3.ensures i)) [] (c.as_slice-guests.ensures i)) in
    grind (arith, common_steps, printers)

pub returns-in_err-unless_at-5 : goal.returns-in_err-unless_at-5
unfolding validated
returns-in_err-unless_at-5 c =
    let printers : c.first_broken-3.result ≡ first_broken (printer_holds c.args.c.now.printers) [] c.args.c.now.guests =
    c.first_broken-3.ensures.value ∙ (λ i. first_broken (printer_holds (c.as_slice-3.ensures i)) [] (c.as_slice-guests.ensures i)) in
    let consoles : c.first_broken-4.result ≡ first_broken (console_holds c.args.c.now.terminals) [] c.args.c.now.guests =
    c.first_broken-4.ensures.value ∙ (λ i. first_broken (console_holds (c.as_slice-4.ensures i)) [] (c.as_slice-guests.ensures i)) in
    grind (arith, common_steps, printers, consoles)

pub returns-in_err-unless_at-6 : goal.returns-in_err-unless_at-6
unfolding validated
returns-in_err-unless_at-6 c =
    let printers : c.first_broken-3.result ≡ first_broken (printer_holds c.args.c.now.printers) [] c.args.c.now.guests =
    c.first_broken-3.ensures.value ∙ (λ i. first_broken (printer_holds (c.as_slice-3.ensures i)) [] (c.as_slice-guests.ensures i)) in
    let consoles : c.first_broken-4.result ≡ first_broken (console_holds c.args.c.now.terminals) [] c.args.c.now.guests =
    c.first_broken-4.ensures.value ∙ (λ i. first_broken (console_holds (c.as_slice-4.ensures i)) [] (c.as_slice-guests.ensures i)) in
    let mounts : c.first_broken-5.result ≡ first_broken (mounts_hold c.args.c.now.volumes) [] c.args.c.now.guests =
    c.first_broken-5.ensures.value ∙ (λ i. first_broken (mounts_hold (c.as_slice-5.ensures i)) [] (c.as_slice-guests.ensures i)) in
    grind (arith, common_steps, printers, consoles, mounts)

pub returns-in_err-unless_at-7 : goal.returns-in_err-unless_at-7
unfolding validated
returns-in_err-unless_at-7 c =
    let printers : c.first_broken-3.result ≡ first_broken (printer_holds c.args.c.now.printers) [] c.args.c.now.guests =
    c.first_broken-3.ensures.value ∙ (λ i. first_broken (printer_holds (c.as_slice-3.ensures i)) [] (c.as_slice-guests.ensures i)) in
    let consoles : c.first_broken-4.result ≡ first_broken (console_holds c.args.c.now.terminals) [] c.args.c.now.guests =
    c.first_broken-4.ensures.value ∙ (λ i. first_broken (console_holds (c.as_slice-4.ensures i)) [] (c.as_slice-guests.ensures i)) in
    let mounts : c.first_broken-5.result ≡ first_broken (mounts_hold c.args.c.now.volumes) [] c.args.c.now.guests =
    c.first_broken-5.ensures.value ∙ (λ i. first_broken (mounts_hold (c.as_slice-5.ensures i)) [] (c.as_slice-guests.ensures i)) in
    let audits : c.first_broken-6.result ≡ first_broken (audit_holds c.args.c.now.audit) [] (objects_of c.args.c.now) =
    c.first_broken-6.ensures.value ∙ ap (first_broken (audit_holds c.args.c.now.audit) []) (c.as_slice-6.ensures.value ∙ c.in_ok-objects.ensures.value) in
    grind (arith, common_steps, printers, consoles, mounts, audits)

pub returns : goal.returns
unfolding validated
returns c =
    let printers : c.first_broken-3.result ≡ first_broken (printer_holds c.args.c.now.printers) [] c.args.c.now.guests =
    c.first_broken-3.ensures.value ∙ (λ i. first_broken (printer_holds (c.as_slice-3.ensures i)) [] (c.as_slice-guests.ensures i)) in
    let consoles : c.first_broken-4.result ≡ first_broken (console_holds c.args.c.now.terminals) [] c.args.c.now.guests =
    c.first_broken-4.ensures.value ∙ (λ i. first_broken (console_holds (c.as_slice-4.ensures i)) [] (c.as_slice-guests.ensures i)) in
    let mounts : c.first_broken-5.result ≡ first_broken (mounts_hold c.args.c.now.volumes) [] c.args.c.now.guests =
    c.first_broken-5.ensures.value ∙ (λ i. first_broken (mounts_hold (c.as_slice-5.ensures i)) [] (c.as_slice-guests.ensures i)) in
    let audits : c.first_broken-6.result ≡ first_broken (audit_holds c.args.c.now.audit) [] (objects_of c.args.c.now) =
    c.first_broken-6.ensures.value ∙ ap (first_broken (audit_holds c.args.c.now.audit) []) (c.as_slice-6.ensures.value ∙ c.in_ok-objects.ensures.value) in
    let pages : c.bad_pages.result ≡ first_broken pages_hold [] c.args.c.now.guests = c.bad_pages.ensures.value ∙ ap (first_broken pages_hold []) c.as_slice-guests.ensures in
    grind (arith, common_steps, printers, consoles, mounts, audits, pages)
