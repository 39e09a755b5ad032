-- What must be believed of the history, in request [6]'s order.
--     Journal      what an entry holds and how it leads back; the ring
--     Named        what the numbers of events and refusals stand for
--     Event        the fresh state, and an event on a state with its journal
--     Survivors    the events not undone, read off a schedule
--     Claims       what is claimed of them, and of what a caller holds
--     Cases        document 01's P cases
--     Sharp        worked schedules: none of the tests of an undo can be left out
--     Apart        the words for a loop that keeps state and journal apart
--     Unique       only one answer fits each contract
pub mod Journal
pub mod Named
pub mod Event
pub mod Survivors
pub mod Claims
pub mod Cases
pub mod Sharp
pub mod Apart
pub mod Unique
