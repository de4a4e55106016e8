-- Worked examples, checked by computation.
use Rattle.std.specs.Prelude.{◌≡◌, refl, [], ◌∷◌, ◌++◌, codes, false, true, Some}
use Rattle.vv_io.specs.Lines.{Seen}
use Rattle.sys_devices.specs.Echo.{echo_of}
use Rattle.sys_devices.specs.Pieces.{begun_after, echo_bytes, end_if}
use Rattle.sys_devices.specs.Screens.{more_on, news}
use Rattle.sys_devices.specs.declared.screen.Screen.{Screen}

-- 13 and 10 are a carriage return and a line feed, 27 begins what a screen would obey
two_lines : echo_of (codes "TU") (codes "OK" ++ 13 ∷ 10 ∷ codes "NAME? ") ≡ codes "TU: OK\nTU: NAME? \n"
two_lines = refl

no_byte_is_obeyed : echo_of (codes "TU") (27 ∷ codes "[2J" ++ 13 ∷ codes "TS: OK" ++ 10 ∷ []) ≡ codes "TU: .[2JTS: OK\n"
no_byte_is_obeyed = refl

an_empty_line : echo_of (codes "TU") (13 ∷ 10 ∷ []) ≡ codes "TU: \n"
an_empty_line = refl

nothing_shown : echo_of (codes "TU") [] ≡ []
nothing_shown = refl

-- a carriage return alone begins no line
a_return_alone : echo_of (codes "TU") (13 ∷ []) ≡ []
a_return_alone = refl

byte_by_byte : echo_bytes (codes "TU") false (codes "A" ++ 10 ∷ codes "B") ++ end_if (begun_after false (codes "A" ++ 10 ∷ codes "B")) ≡ echo_of (codes "TU") (codes "A" ++ 10 ∷ codes "B")
byte_by_byte = refl

-- a piece goes on with the line that the one before it began
a_line_in_two_pieces : echo_bytes (codes "TU") true (codes "B" ++ 10 ∷ []) ≡ codes "B\n"
a_line_in_two_pieces = refl

abbrev shown_so_far : Seen
shown_so_far = record { shown = Some (codes "OK" ++ 10 ∷ codes "HI" ++ 10 ∷ []); faults = 0 }

abbrev tu : Screen
tu = record { name = codes "TU"; line = 0; seen = 3 }

-- three bytes of the line were seen before
only_what_is_new : news (shown_so_far ∷ []) (tu ∷ []) ≡ codes "TU: HI\n"
only_what_is_new = refl

three_more : more_on (record { shown = Some (codes "OK" ++ 10 ∷ []); faults = 0 } ∷ []) (shown_so_far ∷ []) 0 ≡ 3
three_more = refl
