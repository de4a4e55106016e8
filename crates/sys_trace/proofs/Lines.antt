-- The lines of steps, from what the code keeps of them.
use Rattle.std.proofs.Common.{ℕ, ◌≡◌, ◌++◌, ◌∷◌, List, take, ◌∙◌}
use Rattle.std.specs.Prelude.{codes, decimal, slice_index}
use Rattle.sys_system.specs.Watched.{DescribesStep}
use Rattle.sys_system.specs.declared.watching.Watched.{Watched}
use Rattle.sys_trace.specs.Held.{IsBefore}
use Rattle.sys_trace.specs.TraceLine.{at_left, at_right, changed_word, head_of, instruction_or_mark, kind_name, mode_name, note_word, register_words, shown_word, step_words}
use Rattle.sys_trace.specs.declared.before.Before.{Before}
use Rattle.vax_arch.specs.Fields.{current_of}
use Rattle.vm_state.specs.State.{Guest, state_of}
use Rattle.vm_state.specs.Step.{Kind, step}
use Rattle.vm_state.specs.declared.guest_state.GuestState.{GuestState}
use Rattle.vv_base.specs.Digits.{hex_text}

pub words_for : (g : Guest) (b : Before) (w : Watched) (a : GuestState) (line : List ℕ) → IsBefore g b → DescribesStep g w → state_of a ≡ (step g).guest.state
    → line ≡ note_word w.note ++ (register_words 0 (take 15 b.r) (take 15 a.r) ++ (changed_word (codes "PSL") b.psl.0 a.psl.0 ++ shown_word w.shown)) → line ≡ step_words g (step g)
words_for g b w a line before tells after is =
    is ∙ (λ i. note_word (tells.note i) ++ (register_words 0 (take 15 (before.r i)) (take 15 (after i).r) ++ (changed_word (codes "PSL") (before.psl i) (after i).psl ++ shown_word (tells.shown i))))

pub head_for : (number : ℕ) (g : Guest) (kind : Kind) (b : Before) (line : List ℕ) → IsBefore g b
    → line ≡ at_right 6 (decimal number) ++ (32 ∷ at_left 9 (kind_name kind)) ++ (32 ∷ mode_name (current_of b.psl.0)) ++ (32 ∷ hex_text 8 (slice_index b.r 15)) ++ (32 ∷ instruction_or_mark kind b.text) → line ≡ head_of number g kind
head_for number g kind b line before is =
    is ∙ (λ i. at_right 6 (decimal number) ++ (32 ∷ at_left 9 (kind_name kind)) ++ (32 ∷ mode_name (current_of (before.psl i))) ++ (32 ∷ hex_text 8 (slice_index (before.r i) 15)) ++ (32 ∷ instruction_or_mark kind (before.text i)))
