-- Operands of which one at most is read in memory, and one at most claimed: what they give, where these numbers are had.
use Rattle.std.specs.Prelude.{◌≡◌, ℕ, ◌+◌, ◌<◌, ◌==◌, ◌&&◌, ◌||◌, not, Bool, true, List, [], ◌∷◌, length, map, Option, Some, None, Ok, slice_index, slice_set}
use Rattle.vv_base.specs.declared.width.Width.{Width}
use Rattle.vv_base.specs.Width.{size_of}
use Rattle.vax_table.specs.declared.act.Dest.{Dest}
use Rattle.vax_table.specs.declared.act.Dest.TheVariants.{Memory}
use Rattle.vax_table.specs.declared.decoded.Spec.{Spec}
use Rattle.vax_table.specs.declared.evaluation.Evaluated.{Evaluated}
use Rattle.vax_table.specs.declared.evaluation.Operands.{Operands}
use Rattle.vax_table.specs.Effects.{long_of, put}
use Rattle.vax_table.specs.declared.meaning.Operation.{Operation}
use Rattle.vax_table.specs.Plan.{performed}
use Rattle.vax_table.specs.Interaction.{Done, Space, outcome}
use Rattle.vax_table.specs.Operand.{evaluated, minus, place, plus}
use Rattle.vax_table.specs.AllOperands.{no_operands, operands_from, past_own_bytes, with_operand}
use Rattle.vax_operand.specs.declared.kind.Base.{Base}
use Rattle.vax_operand.specs.declared.kind.Base.TheVariants.{Decrement, Increment}
use Rattle.vax_operand.specs.declared.kind.Kind.{Kind}
use Rattle.vax_operand.specs.declared.kind.Kind.TheVariants.{Read, Modify, Write}
use Rattle.vax_operand.specs.declared.prepared.Operand.{Operand}
use Rattle.vax_operand.specs.Prepared.{address_by}
use Rattle.vax_normal.specs.AtHand.{IsMoved, dest_at_hand, is_at_hand, value_at_hand}
use Rattle.vax_normal.specs.InMemory.{HasClaimed, HasRead, done_in_memory, reach_address, reach_stepped, sourced_by, stepped_by, stored}
use Rattle.vax_normal.specs.Normal.{with_result}
use Rattle.vax_normal.specs.declared.shape.InMemory.{InMemory}
use Rattle.vax_normal.specs.declared.shape.Reach.{Reach}
use Rattle.vax_normal.specs.declared.shape.Number.{Number}
use Rattle.vax_normal.specs.declared.shape.Source.{Source}
use Rattle.vax_normal.specs.declared.touches.Touches.{Touches}

-- the registers that a base leaves, for an operand of `size` bytes
abbrev pub base_left : Base → (size n : ℕ) → List ℕ → List ℕ
base_left Decrement size n r = slice_set r n (minus (slice_index r n) size)
base_left Increment size n r = slice_set r n (plus (slice_index r n) size)
base_left b size n r = r

-- a reference is what a base says
abbrev pub IsReachOf : Reach → Base → Width → Spec → Type 0
IsReachOf p b w s = (p.width ≡ w) × ((r : List ℕ) → (address_by b (size_of w) s r ≡ Done (place (reach_address p r) (reach_stepped p r))) × (base_left b (size_of w) s.reg r ≡ reach_stepped p r))

-- the registers that an operand leaves after its own bytes
abbrev pub left_by : Kind → Width → Spec → List ℕ → List ℕ
left_by (Read b) w s r = base_left b (size_of w) s.reg r
left_by (Modify b) w s r = base_left b (size_of w) s.reg r
left_by (Write b) w s r = base_left b (size_of w) s.reg r
left_by k w s r = r

-- its value, where one number is read, and one is claimed
abbrev pub value_had : (read claimed : ℕ) → Kind → Width → Spec → List ℕ → ℕ
value_had v u (Read b) w s r = v
value_had v u (Modify b) w s r = u
value_had v u (Write b) w s r = 0
value_had v u k w s r = value_at_hand k w s r

-- and where its result goes, where this is the address that is claimed
abbrev pub dest_had : (at : ℕ) → Kind → ℕ → Dest
dest_had at (Modify b) n = Memory at
dest_had at (Write b) n = Memory at
dest_had at k n = dest_at_hand k n

abbrev pub operand_had : (read claimed at : ℕ) → Operand → List ℕ → Evaluated
operand_had v u at x r =
    let q = past_own_bytes x.length r in
    evaluated (value_had v u x.kind x.form.width x.spec q) (dest_had at x.kind x.spec.reg) (left_by x.kind x.form.width x.spec q)

-- operands from a number on, put after those before
abbrev pub from_had : (read claimed at i : ℕ) → List Operand → Operands → Operands
from_had v u at i [] o = o
from_had v u at i (x ∷ xs) o = from_had v u at (i + 1) xs (with_operand i o (operand_had v u at x o.r))

-- all, from registers after the opcode
abbrev pub all_had : (read claimed at : ℕ) → List Operand → List ℕ → Operands
all_had v u at xs q = from_had v u at 0 xs (no_operands q)

-- the address that is claimed, where there is one
abbrev pub IsClaimedAt : Option Reach → List ℕ → ℕ → Type 0
IsClaimedAt None r at = Unit {0}
IsClaimedAt (Some p) r at = at ≡ reach_address p r

-- what operands touch: wherever it can be read and claimed, they give what is had
abbrev pub AreTouched : Touches → List Operand → Type 0
AreTouched t xs = (s : Space) (i v u at : ℕ) (r : List ℕ) (o : Operands) → IsMoved r o.r → HasRead s t.reads r v → HasClaimed s t.writes r u → IsClaimedAt t.writes r at →
    (outcome s (operands_from i (map (λ x. x.form) xs) (map (λ x. x.spec) xs) o) ≡ Ok (from_had v u at i xs o)) × IsMoved (stepped_by t.writes (stepped_by t.reads r)) (from_had v u at i xs o).r

-- registers before an instruction of k bytes whose operands make these touches, and those after its opcode, from which these
-- operands are had
abbrev pub AreBeforeTouches : Touches → ℕ → Operands → (r q : List ℕ) → Type 0
AreBeforeTouches t k had r q = (15 < length r) × IsMoved r q × (had.r ≡ past_own_bytes k (stepped_by t.writes (stepped_by t.reads r)))

-- a source is the first number of operands before an instruction of k bytes, whatever they touch
abbrev pub IsFirstSource : Source → ℕ → List Operand → Type 0
IsFirstSource n k xs = (t : Touches) (v u at : ℕ) (r q : List ℕ) →
    AreBeforeTouches t k (all_had v u at xs q) r q → long_of (all_had v u at xs q) 0 ≡ sourced_by n v u r

-- a number stays over an operand: that isn't in memory, or by another register
abbrev pub is_kept_over : Number → Operand → Bool
is_kept_over n x = is_at_hand x.kind || (n.mask == 0 || not (n.register == x.spec.reg))

abbrev pub is_kept_over_all : Number → List Operand → Bool
is_kept_over_all n [] = true
is_kept_over_all n (x ∷ xs) = is_kept_over n x && is_kept_over_all n xs

-- a result goes to a register of this number or where a reference leads
abbrev pub IsPutIn : ℕ → Option Reach → Dest → List ℕ → Type 0
IsPutIn n p dest r = (w : Width) (v psw : ℕ) (q : List ℕ) (trap : Option ℕ) →
    put dest w v (record { r = q; psw = psw; writes = []; trap = trap }) ≡ record { r = with_result n w v q; psw = psw; writes = stored p r w v; trap = trap }

-- an operation after operands that claim so much does what a form says, wherever the form can claim
abbrev pub IsDoneIn : Option Reach → InMemory → Operation → List Operand → Type 0
IsDoneIn w n what xs =
    AreTouched (record { reads = n.reads; writes = w }) xs
    × ((s : Space) (r : List ℕ) (u : ℕ) → HasClaimed s n.writes r u → HasClaimed s w r u)
    × ((s : Space) (v u at psw : ℕ) (r q : List ℕ) → 15 < length r → IsMoved r q → HasClaimed s n.writes r u → IsClaimedAt w r at → (all_had v u at xs q).r ≡ past_own_bytes n.length (stepped_by w (stepped_by n.reads r)) →
    outcome s (performed what (all_had v u at xs q) psw) ≡ Ok (done_in_memory n v u r psw))
