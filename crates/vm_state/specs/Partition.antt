-- A guest's memory as a part of a machine's (profile).
use Rattle.std.specs.Prelude.{◌≡◌, ℕ, ◌+◌, ◌*◌, List, drop, length, take}
use Rattle.vm_state.specs.State.{Guest, state_of}
use Rattle.vm_state.specs.declared.guest_state.GuestState.{GuestState}

-- `size` bytes from a place on
abbrev pub part : List ℕ → (at size : ℕ) → List ℕ
part memory at size = take size (drop at memory)

-- a guest's partition of the machine's memory, and the guest whose memory it is
abbrev pub partition_of : List ℕ → GuestState → List ℕ
partition_of memory g = part memory (512 * g.base) (512 * g.pages)

abbrev pub guest_of : List ℕ → GuestState → Guest
guest_of memory g = record { memory = partition_of memory g; state = state_of g }

-- two memories that differ in n bytes from a place on at most
pub record IsApart (at n : ℕ) (before after : List ℕ) : Type 0 where
  pub front : take at after ≡ take at before
  pub back : drop (at + n) after ≡ drop (at + n) before
  pub size : length after ≡ length before
