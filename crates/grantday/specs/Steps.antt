-- The day of docs/RULES.md 10.2 as a history, in the steps in which the program takes it; the labels and the description are those that are lent.
use Rattle.std.specs.Prelude.{ℕ, true, ◌≡◌, refl, List, pos}
use Rattle.rules.specs.Kernel.{create_category, set_label, create_container, create_segment, create_thread, unreference, move_quota, read, resize, startable, History, started, next}
use Rattle.histories.specs.Areas.{After}
use Rattle.examples.specs.Play.{zeros32}
use Rattle.examples.specs.Met.{one, two, tainted, room, list, morning, grown, granting, crowding, fill, filled, one_more, whole_day}

-- where the areas b and `area` are what a history left, b' and area' are what it leaves with these steps more
abbrev pub Plays : (History → History) → List ℕ → List ℕ → List ℕ → List ℕ → Type 0
Plays steps b area b' area' = (h : History) → After h b area → After (steps h) b' area'

abbrev pub granted : History → List ℕ → List ℕ → History
granted h tainted text = next (next (next h 101 create_category) 101 (create_container 100 tainted text 0 20)) 101 (create_segment 103 tainted text 0)

abbrev pub peopled : History → List ℕ → List ℕ → List ℕ → History
peopled h one two text = next (next (next h 101 (resize 103 104 256)) 101 (resize 103 104 257)) 101 (create_thread 100 one two text)

abbrev pub looked : History → History
looked h = next h 107 (read 103 104 0 0 1)

abbrev pub crowded : History → List ℕ → List ℕ → List ℕ → History
crowded h one tainted text = next (next (next h 107 (set_label tainted)) 107 (create_segment 100 one text 234)) 107 (create_segment 100 one text 233)

abbrev pub kept : History → List ℕ → List ℕ → History
kept h tainted text = next (next (next h 101 (move_quota 100 103 (pos 1))) 101 (create_segment 103 tainted text 14)) 101 (create_segment 103 tainted text 1)

abbrev pub freed : History → History
freed h = next (next (next h 101 (unreference 100 111)) 111 create_category) 101 (move_quota 100 103 (pos 1))

abbrev pub day : List ℕ → List ℕ → List ℕ → List ℕ → History
day one two tainted text = freed (kept (crowded (looked (peopled (granted (started 100) tainted text) one two text)) one tainted text) tainted text)

pub can_start : startable 100 ≡ true
unfolding startable
can_start = refl

-- With that day's labels it is that day.
pub page_01 : day one two tainted zeros32 ≡ whole_day
unfolding whole_day filled one_more crowding fill granting grown morning room list
page_01 = refl
