-- Which calls are kept, and in which order they are listed.
use Rattle.call_rows.specs.declared.filter.CallFilter.{CallFilter}
use Rattle.call_rows.specs.declared.order.CallOrder.{CallOrder}
use Rattle.call_rows.specs.declared.kept.KeptCalls.{KeptCalls}

-- the calls that are wanted
abbrev pub kept_filter : KeptCalls → CallFilter
kept_filter kept = kept.wanted

abbrev pub order_by : KeptCalls → CallOrder
order_by kept = kept.first.order
