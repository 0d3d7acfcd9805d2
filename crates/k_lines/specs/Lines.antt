-- What a line says, and how it is spelled in words.
use Rattle.std.specs.Prelude.{ℕ, ◌+◌, ◌≡◌, ◌==◌, Bool, true, false, ◌||◌, List, [], ◌∷◌, ◌++◌, length, take, drop, codes, decimal, position, slice_index, Option, Some, None, option_map, option_and_then, if◌then◌else◌}
use Rattle.std.specs.Str.{bytes_eq}
use Rattle.k_script.specs.Limits.{is_name}
use Rattle.k_lines.specs.declared.numeral.Numeral.{Numeral}
use Rattle.k_lines.specs.declared.line.WhoWord.{WhoWord}
use Rattle.k_lines.specs.declared.line.WhoWord.TheVariants as who
use Rattle.k_lines.specs.declared.line.ValueWord.{ValueWord}
use Rattle.k_lines.specs.declared.line.ValueWord.TheVariants as value
use Rattle.k_lines.specs.declared.line.ItemWord.{ItemWord}
use Rattle.k_lines.specs.declared.line.ItemWord.TheVariants as item
use Rattle.k_lines.specs.declared.line.OperationLine.{OperationLine}
use Rattle.k_lines.specs.declared.line.OperationLine.TheVariants as operation
use Rattle.k_lines.specs.declared.line.Line.{Line}
use Rattle.k_lines.specs.declared.line.Line.TheVariants as line
use Rattle.k_lines.specs.Numbers.{numeral_of, IsNumber}

abbrev pub Word : Type 0
Word = List ℕ

-- SPELLING: the words of each line

abbrev pub spelled_who : WhoWord → Word
spelled_who (who.Number n) = 35 ∷ decimal n.value  -- "#" and the thread number
spelled_who who.Last = codes "last"
spelled_who who.Made = codes "made"

abbrev pub spelled_value : ValueWord → Word
spelled_value (value.Number n) = decimal n.value
spelled_value value.Got0 = codes "got0"
spelled_value value.Got1 = codes "got1"

-- the timeout of an operation: zero, or never
abbrev pub spelled_timeout : Bool → List Word
spelled_timeout true = codes "now" ∷ []
spelled_timeout false = []

abbrev pub spelled_operation : OperationLine → List Word
spelled_operation (operation.Send to low high zero) = codes "send" ∷ spelled_who to ∷ spelled_value low ∷ spelled_value high ∷ spelled_timeout zero
spelled_operation (operation.Receive from zero) = codes "receive" ∷ spelled_who from ∷ spelled_timeout zero
spelled_operation (operation.Wait zero) = codes "wait" ∷ spelled_timeout zero
spelled_operation (operation.Call to low high zero) = codes "call" ∷ spelled_who to ∷ spelled_value low ∷ spelled_value high ∷ spelled_timeout zero
spelled_operation (operation.Reply low high zero) = codes "reply" ∷ spelled_value low ∷ spelled_value high ∷ spelled_timeout zero
spelled_operation (operation.Create program priority) = codes "create" ∷ program ∷ decimal priority.value ∷ []
spelled_operation (operation.Destroy victim) = codes "destroy" ∷ spelled_who victim ∷ []
spelled_operation (operation.Work count) = codes "work" ∷ decimal count.value ∷ []
spelled_operation (operation.Repeat count) = codes "repeat" ∷ decimal count.value ∷ []
spelled_operation operation.Again = codes "again" ∷ []

abbrev pub spelled : Line → List Word
spelled (line.Kernel version) = codes "kernel" ∷ decimal version.value ∷ []
spelled (line.Table size) = codes "table" ∷ decimal size.value ∷ []
spelled (line.Carriers count) = codes "carriers" ∷ decimal count.value ∷ []
spelled line.ShowSteps = codes "show" ∷ codes "steps" ∷ []
spelled (line.Aged number version) = codes "aged" ∷ decimal number.value ∷ decimal version.value ∷ []
spelled (line.Program name) = codes "program" ∷ name ∷ []
spelled line.End = codes "end" ∷ []
spelled (line.Thread priority program) = codes "thread" ∷ decimal priority.value ∷ program ∷ []
spelled (line.Start step number) = codes "at" ∷ decimal step.value ∷ codes "start" ∷ decimal number.value ∷ []
spelled (line.Slice step carrier) = codes "at" ∷ decimal step.value ∷ codes "slice" ∷ decimal carrier.value ∷ []
spelled (line.Operation op) = spelled_operation op

-- an item of a turns line: "C*COUNT", or "C!"
abbrev pub spelled_item : ItemWord → Word
spelled_item (item.Steps carrier count) = decimal carrier.value ++ 42 ∷ decimal count.value
spelled_item (item.Park carrier) = decimal carrier.value ++ 33 ∷ []

-- PROPER LINES: each numeral of it is a number of a script.

abbrev pub IsProperWho : WhoWord → Type 0
IsProperWho (who.Number n) = IsNumber n
IsProperWho who.Last = Unit {0}
IsProperWho who.Made = Unit {0}

abbrev pub IsProperValue : ValueWord → Type 0
IsProperValue (value.Number n) = IsNumber n
IsProperValue value.Got0 = Unit {0}
IsProperValue value.Got1 = Unit {0}

abbrev pub IsProperOperation : OperationLine → Type 0
IsProperOperation (operation.Send to low high zero) = IsProperWho to × IsProperValue low × IsProperValue high
IsProperOperation (operation.Receive from zero) = IsProperWho from
IsProperOperation (operation.Wait zero) = Unit {0}
IsProperOperation (operation.Call to low high zero) = IsProperWho to × IsProperValue low × IsProperValue high
IsProperOperation (operation.Reply low high zero) = IsProperValue low × IsProperValue high
IsProperOperation (operation.Create program priority) = IsNumber priority
IsProperOperation (operation.Destroy victim) = IsProperWho victim
IsProperOperation (operation.Work count) = IsNumber count
IsProperOperation (operation.Repeat count) = IsNumber count
IsProperOperation operation.Again = Unit {0}

abbrev pub IsProper : Line → Type 0
IsProper (line.Kernel version) = IsNumber version
IsProper (line.Table size) = IsNumber size
IsProper (line.Carriers count) = IsNumber count
IsProper line.ShowSteps = Unit {0}
IsProper (line.Aged number version) = IsNumber number × IsNumber version
IsProper (line.Program name) = Unit {0}
IsProper line.End = Unit {0}
IsProper (line.Thread priority program) = IsNumber priority
IsProper (line.Start step number) = IsNumber step × IsNumber number
IsProper (line.Slice step carrier) = IsNumber step × IsNumber carrier
IsProper (line.Operation op) = IsProperOperation op

abbrev pub IsProperItem : ItemWord → Type 0
IsProperItem (item.Steps carrier count) = IsNumber carrier × IsNumber count
IsProperItem (item.Park carrier) = IsNumber carrier

-- The name in it, if it has one, is a program's name.
abbrev pub IsNamedOperation : OperationLine → Type 0
IsNamedOperation (operation.Create program priority) = is_name program ≡ true
IsNamedOperation op = Unit {0}

abbrev pub IsNamed : Line → Type 0
IsNamed (line.Program name) = is_name name ≡ true
IsNamed (line.Thread priority program) = is_name program ≡ true
IsNamed (line.Operation op) = IsNamedOperation op
IsNamed l = Unit {0}

-- READING: which forms a word has

abbrev pub name_of : Word → Option Word
name_of w = if is_name w then Some w else None

abbrev pub hash_of : Word → Option WhoWord
hash_of [] = None
hash_of (c ∷ cs) = if c == 35 then option_map who.Number (numeral_of cs) else None

abbrev pub who_of : Word → Option WhoWord
who_of w = if bytes_eq w (codes "last") then Some who.Last else (if bytes_eq w (codes "made") then Some who.Made else hash_of w)

abbrev pub value_of : Word → Option ValueWord
value_of w = if bytes_eq w (codes "got0") then Some value.Got0 else (if bytes_eq w (codes "got1") then Some value.Got1 else option_map value.Number (numeral_of w))

-- a star or an exclamation mark
abbrev pub is_mark : ℕ → Bool
is_mark b = (b == 42) || (b == 33)

abbrev pub steps_at : Word → ℕ → Option ItemWord
steps_at w at = option_and_then (λ carrier. option_map (λ count. item.Steps carrier count) (numeral_of (drop (at + 1) w))) (numeral_of (take at w))

abbrev pub park_at : Word → ℕ → Option ItemWord
park_at w at = if at + 1 == length w then option_map item.Park (numeral_of (take at w)) else None

abbrev pub marked_at : Word → Option ℕ → Option ItemWord
marked_at w None = None
marked_at w (Some at) = if slice_index w at == 42 then steps_at w at else park_at w at

unfoldable pub item_of : Word → Option ItemWord
item_of w = marked_at w (position is_mark w)

abbrev pub each_item : List Word → Option (List ItemWord)
each_item [] = Some []
each_item (w ∷ ws) = option_and_then (λ i. option_map (λ is. i ∷ is) (each_item ws)) (item_of w)

-- the items of a turns line: at least one
unfoldable pub items_of : List Word → Option (List ItemWord)
items_of [] = None
items_of (w ∷ ws) = each_item (w ∷ ws)

-- READING: the words behind the first one

unfoldable pub one_numeral : List Word → Option Numeral
one_numeral [] = None
one_numeral (n ∷ []) = numeral_of n
one_numeral (n ∷ w ∷ ws) = None

unfoldable pub show_line : List Word → Option Line
show_line [] = None
show_line (w ∷ []) = if bytes_eq w (codes "steps") then Some line.ShowSteps else None
show_line (w ∷ v ∷ ws) = None

unfoldable pub aged_line : List Word → Option Line
aged_line [] = None
aged_line (n ∷ []) = None
aged_line (n ∷ v ∷ []) = option_and_then (λ number. option_map (λ version. line.Aged number version) (numeral_of v)) (numeral_of n)
aged_line (n ∷ v ∷ w ∷ ws) = None

unfoldable pub one_name : List Word → Option Word
one_name [] = None
one_name (n ∷ []) = name_of n
one_name (n ∷ w ∷ ws) = None

unfoldable pub thread_line : List Word → Option Line
thread_line [] = None
thread_line (p ∷ []) = None
thread_line (p ∷ n ∷ []) = option_and_then (λ priority. option_map (λ program. line.Thread priority program) (name_of n)) (numeral_of p)
thread_line (p ∷ n ∷ w ∷ ws) = None

abbrev pub event_line : Word → Numeral → Numeral → Option Line
event_line w step n = if bytes_eq w (codes "start") then Some (line.Start step n) else (if bytes_eq w (codes "slice") then Some (line.Slice step n) else None)

unfoldable pub at_line : List Word → Option Line
at_line [] = None
at_line (k ∷ []) = None
at_line (k ∷ w ∷ []) = None
at_line (k ∷ w ∷ n ∷ []) = option_and_then (λ step. option_and_then (λ number. event_line w step number) (numeral_of n)) (numeral_of k)
at_line (k ∷ w ∷ n ∷ v ∷ ws) = None

abbrev pub is_now : Word → Bool
is_now w = bytes_eq w (codes "now")

-- no word, or `now`
unfoldable pub timeout_of : List Word → Option Bool
timeout_of [] = Some false
timeout_of (w ∷ []) = if is_now w then Some true else None
timeout_of (w ∷ v ∷ ws) = None

abbrev pub sent : (WhoWord → ValueWord → ValueWord → Bool → OperationLine) → Word → Word → Word → List Word → Option OperationLine
sent f t a b ws = option_and_then (λ to. option_and_then (λ low. option_and_then (λ high. option_map (λ zero. f to low high zero) (timeout_of ws)) (value_of b)) (value_of a)) (who_of t)

unfoldable pub send_line : List Word → Option OperationLine
send_line [] = None
send_line (t ∷ []) = None
send_line (t ∷ a ∷ []) = None
send_line (t ∷ a ∷ b ∷ ws) = sent operation.Send t a b ws

unfoldable pub call_line : List Word → Option OperationLine
call_line [] = None
call_line (t ∷ []) = None
call_line (t ∷ a ∷ []) = None
call_line (t ∷ a ∷ b ∷ ws) = sent operation.Call t a b ws

unfoldable pub reply_line : List Word → Option OperationLine
reply_line [] = None
reply_line (a ∷ []) = None
reply_line (a ∷ b ∷ ws) = option_and_then (λ low. option_and_then (λ high. option_map (λ zero. operation.Reply low high zero) (timeout_of ws)) (value_of b)) (value_of a)

unfoldable pub receive_line : List Word → Option OperationLine
receive_line [] = None
receive_line (t ∷ ws) = option_and_then (λ from. option_map (λ zero. operation.Receive from zero) (timeout_of ws)) (who_of t)

unfoldable pub create_line : List Word → Option OperationLine
create_line [] = None
create_line (n ∷ []) = None
create_line (n ∷ p ∷ []) = option_and_then (λ program. option_map (λ priority. operation.Create program priority) (numeral_of p)) (name_of n)
create_line (n ∷ p ∷ w ∷ ws) = None

unfoldable pub destroy_line : List Word → Option OperationLine
destroy_line [] = None
destroy_line (t ∷ []) = option_map operation.Destroy (who_of t)
destroy_line (t ∷ w ∷ ws) = None

unfoldable pub again_line : List Word → Option OperationLine
again_line [] = Some operation.Again
again_line (w ∷ ws) = None

unfoldable pub end_line : List Word → Option Line
end_line [] = Some line.End
end_line (w ∷ ws) = None

-- READING: the first word says which line it is.

unfoldable pub operation_line : Word → List Word → Option OperationLine
operation_line w ws =
    if bytes_eq w (codes "send") then send_line ws
    else (if bytes_eq w (codes "receive") then receive_line ws
    else (if bytes_eq w (codes "wait") then option_map operation.Wait (timeout_of ws)
    else (if bytes_eq w (codes "call") then call_line ws
    else (if bytes_eq w (codes "reply") then reply_line ws
    else (if bytes_eq w (codes "create") then create_line ws
    else (if bytes_eq w (codes "destroy") then destroy_line ws
    else (if bytes_eq w (codes "work") then option_map operation.Work (one_numeral ws)
    else (if bytes_eq w (codes "repeat") then option_map operation.Repeat (one_numeral ws)
    else (if bytes_eq w (codes "again") then again_line ws
    else None)))))))))

-- A line of the given words. The turns line has its own reading (items_of).
unfoldable pub line_of : Word → List Word → Option Line
line_of w ws =
    if bytes_eq w (codes "kernel") then option_map line.Kernel (one_numeral ws)
    else (if bytes_eq w (codes "table") then option_map line.Table (one_numeral ws)
    else (if bytes_eq w (codes "carriers") then option_map line.Carriers (one_numeral ws)
    else (if bytes_eq w (codes "show") then show_line ws
    else (if bytes_eq w (codes "aged") then aged_line ws
    else (if bytes_eq w (codes "program") then option_map line.Program (one_name ws)
    else (if bytes_eq w (codes "end") then end_line ws
    else (if bytes_eq w (codes "thread") then thread_line ws
    else (if bytes_eq w (codes "at") then at_line ws
    else option_map line.Operation (operation_line w ws)))))))))
