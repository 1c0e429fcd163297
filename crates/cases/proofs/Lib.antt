mod Table
