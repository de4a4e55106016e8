-- What a line at the secure server asks for (profile, after the commands of the VAX VMM's secure server: Karger and
-- others, A retrospective on the VAX VMM security kernel, IEEE TSE 17(11), 1991). A line is words with one blank (32)
-- between each two.
use Rattle.std.specs.Prelude.{◌≡◌, ℕ, ◌+◌, ◌-◌, ◌<◌, List, [], ◌∷◌, codes, Bool, true, false, ◌==◌, ◌&&◌, nat_le, if◌then◌else◌, Option, None, Some, option_and_then, option_map, bytes_eq}
use Rattle.std.specs.List.{join_with_byte, slice_split}
use Rattle.vv_base.specs.Names.{is_object_name, tested}
use Rattle.sys_server.specs.declared.command.NamedCommand.{NamedCommand}
use Rattle.sys_server.specs.declared.command.NamedCommand.TheVariants.{Connect, Start, Halt, Mount, Dismount, Show}

-- a unit's digit, 0 to 3
abbrev pub unit_text : ℕ → List ℕ
unit_text unit = (48 + unit) ∷ []

abbrev pub access_text : Bool → List ℕ
access_text true = codes "WRITE"
access_text false = codes "READ"

-- the words of each command
abbrev pub words_of : NamedCommand → List (List ℕ)
words_of (Connect vm) = codes "CONNECT" ∷ vm ∷ []
words_of (Start vm) = codes "START" ∷ vm ∷ []
words_of (Halt vm) = codes "HALT" ∷ vm ∷ []
words_of (Mount vm unit volume write) = codes "MOUNT" ∷ vm ∷ unit_text unit ∷ volume ∷ access_text write ∷ []
words_of (Dismount vm unit) = codes "DISMOUNT" ∷ vm ∷ unit_text unit ∷ []
words_of Show = codes "SHOW" ∷ []

abbrev pub IsName : List ℕ → Type 0
IsName name = is_object_name name ≡ true

-- guests and volumes have names of objects, and a guest has units 0 to 3
abbrev pub IsAsked : NamedCommand → Type 0
IsAsked (Connect vm) = IsName vm
IsAsked (Start vm) = IsName vm
IsAsked (Halt vm) = IsName vm
IsAsked (Mount vm unit volume write) = IsName vm × (unit < 4) × IsName volume
IsAsked (Dismount vm unit) = IsName vm × (unit < 4)
IsAsked Show = Unit {0}

-- the line is this command
abbrev pub Asks : List ℕ → NamedCommand → Type 0
Asks text asked = IsAsked asked × (text ≡ join_with_byte 32 (words_of asked))

-- What a line asks for, as a reading that computes, word for word.
abbrev pub words : List ℕ → List (List ℕ)
words text = slice_split (λ b. b == 32) text

-- the words after a blank, where there is one
abbrev pub rest_words : Option (List ℕ) → List (List ℕ)
rest_words None = []
rest_words (Some rest) = words rest

abbrev pub unit_in : List ℕ → Option ℕ
unit_in (b ∷ []) = if nat_le 48 b && nat_le b 51 then Some (b - 48) else None
unit_in word = None

abbrev pub access_in : List ℕ → Option Bool
access_in word = if bytes_eq word (codes "WRITE") then Some true else if bytes_eq word (codes "READ") then Some false else None

abbrev pub asked_of_guest : List ℕ → List ℕ → Option NamedCommand
asked_of_guest verb vm =
    if bytes_eq verb (codes "CONNECT") then Some (Connect vm) else
    if bytes_eq verb (codes "START") then Some (Start vm) else
    if bytes_eq verb (codes "HALT") then Some (Halt vm) else None

-- a guest or a volume has the name of an object
abbrev pub asked_of : List (List ℕ) → Option NamedCommand
asked_of (verb ∷ []) = if bytes_eq verb (codes "SHOW") then Some Show else None
asked_of (verb ∷ vm ∷ []) = option_and_then (asked_of_guest verb) (tested is_object_name vm)
asked_of (verb ∷ vm ∷ unit ∷ []) = if bytes_eq verb (codes "DISMOUNT") then option_and_then (λ g. option_map (Dismount g) (unit_in unit)) (tested is_object_name vm) else None
asked_of (verb ∷ vm ∷ unit ∷ volume ∷ access ∷ []) =
    if bytes_eq verb (codes "MOUNT") then
    option_and_then (λ g. option_and_then (λ u. option_and_then (λ v. option_map (Mount g u v) (access_in access)) (tested is_object_name volume)) (unit_in unit)) (tested is_object_name vm)
    else None
asked_of other = None

unfoldable pub asked_in : List ℕ → Option NamedCommand
asked_in text = asked_of (words text)
