-- The first fault along a list (own): `first_in` over the tests of the list, `or_else` of one list and another.
pub use Rattle.list_laws.specs.Options.{or_else, first_in}
