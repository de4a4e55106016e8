-- The stack: longwords that are pushed and popped, and stacks of registers by a mask
-- (VAX Architecture Reference Manual: PUSHL, PUSHR, POPR; subroutine and procedure call instructions).
use Rattle.std.specs.Prelude.{ℕ, zero, suc, ◌+◌, List, [], ◌∷◌, ◌++◌, if◌then◌else◌, slice_index, slice_set}
use Rattle.vv_base.specs.Bits.{is_set}
use Rattle.vv_base.specs.declared.width.Width.TheVariants.{Long}
use Rattle.vax_arch.specs.declared.mode.Intent.TheVariants.{Read, Write}
use Rattle.vax_table.specs.declared.evaluation.Place.{Place}
use Rattle.vax_table.specs.Effects.{Effect, store}
use Rattle.vax_table.specs.Operand.{minus, place, plus}
use Rattle.vax_table.specs.Interaction.{Interaction, Done, Touch, ◌>>=◌}

-- a longword is pushed: SP goes down by 4, and the longword goes there
unfoldable pub push : ℕ → Effect → Interaction Effect
push v e =
    let sp = minus (slice_index e.r 14) 4 in
    Touch Write sp 4 (λ old. Done (record e { r = slice_set e.r 14 sp; writes = e.writes ++ store sp Long v ∷ [] }))

-- longwords are pushed, one after another
abbrev pub push_all : List ℕ → Effect → Interaction Effect
push_all [] e = Done e
push_all (v ∷ vs) e = push v e >>= λ next. push_all vs next

-- a longword is popped into a register, from an address that goes up by 4
unfoldable pub pop : ℕ → Place → Interaction Place
pop n p = Touch Read p.at 4 (λ v. Done (place (plus p.at 4) (slice_set p.r n v)))

-- longwords are popped into these registers, one after another
abbrev pub pop_all : List ℕ → Place → Interaction Place
pop_all [] p = Done p
pop_all (n ∷ ns) p = pop n p >>= λ next. pop_all ns next

-- the registers below n that a mask names, from the highest down
unfoldable pub named_down : ℕ → ℕ → List ℕ
named_down zero mask = []
named_down (suc n) mask = if is_set mask n then n ∷ named_down n mask else named_down n mask

-- which of the k registers from n on a mask names, from the lowest up
unfoldable pub named_up : ℕ → ℕ → ℕ → List ℕ
named_up zero n mask = []
named_up (suc k) n mask = if is_set mask n then n ∷ named_up k (n + 1) mask else named_up k (n + 1) mask
