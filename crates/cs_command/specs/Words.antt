-- The arguments as texts, and what a result says about them.
use Rattle.std.specs.Prelude.{◌≡◌, List, map, Some, None, Result, Ok, Err, String, string_bytes}
use Rattle.std.specs.Global.{Global}
use Rattle.cs_arguments.specs.{Orders.asked_in, Reading.Text, Reading.reading, declared.order.Order.Order}
use Rattle.cs_command.specs.{declared.reading.Unread.Unread, declared.reading.Unread.TheVariants.Usage}

-- the bytes of each argument
abbrev pub texts : List (String Global) → List Text
texts words = map (λ w. string_bytes w) words

-- An order is what the arguments ask for. They are refused only if they have no reading; in that case there
-- is no order, so the result is the refusal or out of memory.
abbrev pub IsRead : List Text → Result Order Unread → Type 0
IsRead words (Ok order) = reading words ≡ Some (asked_in order)
IsRead words (Err unread) = unread ≡ Usage → reading words ≡ None
