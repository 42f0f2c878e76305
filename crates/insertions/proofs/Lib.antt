mod Made
mod Trees
