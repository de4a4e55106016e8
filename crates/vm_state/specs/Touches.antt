-- How often a guest touches a page that it hasn't touched since its translation could have changed: the number that
-- bounds the misses of the real machine. A set of present system pages is kept, and for each of the four contexts used
-- last, the most recent first, a set of its present other pages (profile).
use Rattle.std.specs.Prelude.{ℕ, zero, suc, ◌+◌, ◌==◌, ◌||◌, Bool, not, if◌then◌else◌, List, [], ◌∷◌, length, map, filter, find, take, Option, Some, None}
use Rattle.std.specs.Bool.{beq}
use Rattle.std.specs.List.{list_any}
use Rattle.vax_arch.specs.Walk.{Tables, lookup, region_of}
use Rattle.vax_arch.specs.declared.walk.Lookup.{Lookup}
use Rattle.vax_arch.specs.declared.walk.Lookup.TheVariants.{Beyond, Direct, Fails, Found}
use Rattle.vm_slots.specs.Held.{is_same}
use Rattle.vm_slots.specs.declared.context.Context.{Context}
use Rattle.vm_state.specs.State.{Guest, context_of}
use Rattle.vm_state.specs.Step.{Stepped, step}
use Rattle.vm_state.specs.Translation.{frame_at}

-- the present pages of a context
pub record Process : Type 0 where
  pub context : Context
  pub pages : List ℕ

pub record Present : Type 0 where
  -- system pages, by their numbers
  pub system : List ℕ
  -- most recent first
  pub processes : List Process

abbrev pub is_system : ℕ → Bool
is_system page = region_of page == 2

abbrev pub has_page : ℕ → List ℕ → Bool
has_page page pages = list_any (λ p. p == page) pages

-- the context that is used moves to the front; a fifth drops the last
abbrev pub no_pages : Context → Process
no_pages c = record { context = c; pages = [] }

abbrev pub process_or_new : Context → Option Process → Process
process_or_new c None = no_pages c
process_or_new c (Some p) = p

abbrev pub brought : Context → List Process → List Process
brought c ps = process_or_new c (find (λ p. is_same c p.context) ps) ∷ take 3 (filter (λ p. not (is_same c p.context)) ps)

abbrev pub to_front : Guest → Present → Present
to_front g p = record p { processes = brought (context_of g.state.tables) p.processes }

-- at the beginning nothing is present
abbrev pub at_first : Guest → Present
at_first g = to_front g (record { system = []; processes = [] })

-- the pages of the context in front
abbrev pub front_pages : List Process → List ℕ
front_pages [] = []
front_pages (p ∷ ps) = p.pages

abbrev pub is_present : ℕ → Present → Bool
is_present page p = if is_system page then has_page page p.system else has_page page (front_pages p.processes)

abbrev pub with_front : ℕ → List Process → List Process
with_front page [] = []
with_front page (p ∷ ps) = record p { pages = page ∷ p.pages } ∷ ps

abbrev pub with_present_page : ℕ → Present → Present
with_present_page page p = if is_system page then record p { system = page ∷ p.system } else record p { processes = with_front page p.processes }

-- what is present, and the count
pub record Touching : Type 0 where
  pub present : Present
  pub count : ℕ

-- a touched page that isn't present counts 1, and is added where it has a frame
abbrev pub found_one : Touching → ℕ → Touching
found_one t page = if is_present page t.present then t else record { present = with_present_page page t.present; count = t.count + 1 }

abbrev pub found_all : List ℕ → Touching → Touching
found_all [] t = t
found_all (page ∷ pages) t = found_all pages (found_one t page)

abbrev pub lacked_one : Touching → ℕ → Touching
lacked_one t page = if is_present page t.present then t else record t { count = t.count + 1 }

abbrev pub lacked_all : List ℕ → Touching → Touching
lacked_all [] t = t
lacked_all (page ∷ pages) t = lacked_all pages (lacked_one t page)

-- the frames of the entries by which a page is found
abbrev pub frames_read : Lookup → List ℕ
frames_read (Found place None) = frame_at place ∷ []
frames_read (Found place (Some table)) = frame_at place ∷ frame_at table ∷ []
frames_read (Direct frame) = []
frames_read (Fails not_valid parameter) = []
frames_read Beyond = []

abbrev pub have_common : List ℕ → List ℕ → Bool
have_common xs ys = list_any (λ x. has_page x ys) xs

-- pages of a context, on the guest's system table
abbrev pub under : Guest → Context → Tables
under g c = record g.state.tables { mapped = c.mapped; p0br = c.p0br; p0lr = c.p0lr; p1br = c.p1br; p1lr = c.p1lr }

abbrev pub was_read : Guest → Tables → List ℕ → ℕ → Bool
was_read g t written page = have_common (frames_read (lookup (length g.memory) g.memory t page)) written

-- whether a written frame holds an entry by which a present page was found
abbrev pub is_overwritten : Guest → List ℕ → Present → Bool
is_overwritten g written p =
    list_any (was_read g g.state.tables written) p.system || list_any (λ q. list_any (was_read g (under g q.context) written) q.pages) p.processes

-- SBR, SLR or MAPEN changed
abbrev pub is_remapped : Tables → Tables → Bool
is_remapped t u = not (t.sbr == u.sbr) || not (t.slr == u.slr) || not (beq t.mapped u.mapped)

-- all sets are emptied; the list of contexts stays
abbrev pub emptied : Present → Present
emptied p = record { system = []; processes = map (λ q. no_pages q.context) p.processes }

-- what the frames that are written, and other system registers, leave; then the guest's context moves to the front
abbrev pub present_after : Guest → Guest → List ℕ → Present → Present
present_after g h written p = to_front h (if is_overwritten g written p || is_remapped g.state.tables h.state.tables then emptied p else p)

-- one step
abbrev pub touching_step : Guest → Stepped → Touching → Touching
touching_step g s t =
    let u = lacked_all s.touched.lacking (found_all s.touched.found t) in
    record u { present = present_after g s.guest s.written u.present }

-- n steps
abbrev pub touching_steps : ℕ → Guest → Touching → Touching
touching_steps zero g t = t
touching_steps (suc n) g t = let s = step g in touching_steps n s.guest (touching_step g s t)

-- a write from outside, and a reset
abbrev pub touching_write : Guest → List ℕ → Present → Present
touching_write g written p = present_after g g written p

abbrev pub touching_reset : Guest → Present → Present
touching_reset h p = to_front h (emptied p)
