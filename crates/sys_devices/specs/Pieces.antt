-- What is shown of a piece of what a terminal was shown, where its end isn't known yet: with the end of a line that is begun it is
-- the echo, once no more comes (`IsEcho`). 10 is a line feed, 13 a carriage return.
use Rattle.std.specs.Prelude.{ℕ, ◌≡◌, List, [], ◌∷◌, ◌++◌, Bool, true, false, ◌==◌, if◌then◌else◌}
use Rattle.sys_devices.specs.Echo.{echo_of, name_front, seen_byte}

-- the terminal's name where no line is begun
abbrev pub front_if : Bool → List ℕ → List ℕ
front_if true name = []
front_if false name = name_front name

-- what is shown of bytes after a line that is begun or isn't
abbrev pub echo_bytes : List ℕ → Bool → List ℕ → List ℕ
echo_bytes name is_begun [] = []
echo_bytes name is_begun (b ∷ bytes) =
    if b == 13 then echo_bytes name is_begun bytes else
    if b == 10 then front_if is_begun name ++ 10 ∷ echo_bytes name false bytes else
    (front_if is_begun name ++ seen_byte b ∷ echo_bytes name true bytes)

-- whether a line is begun after them
abbrev pub begun_after : Bool → List ℕ → Bool
begun_after is_begun [] = is_begun
begun_after is_begun (b ∷ bytes) =
    if b == 13 then begun_after is_begun bytes else if b == 10 then begun_after false bytes else begun_after true bytes

-- the end of a line that is begun
abbrev pub end_if : Bool → List ℕ
end_if true = 10 ∷ []
end_if false = []

-- all pieces and the last end are the echo
abbrev pub IsEcho : Type 0
IsEcho = (name bytes : List ℕ) → echo_bytes name false bytes ++ end_if (begun_after false bytes) ≡ echo_of name bytes
